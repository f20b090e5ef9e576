use Rattle.ink_report.proofs.Common.{◌≡◌, ℕ, List, ◌++◌, codes, string_bytes, ap, ◌∙◌, append_assoc, view, Data, has_float, compact_text, summary_data}
use Rattle.ink_report.specs.Json.{json_line}
use Rattle.ink_report.proofs.Values.{summary_has_no_float}
use Rattle.ink_report.proofs.json.put_json.Goals as goal

-- the text with one more line
line_more : (old line bytes first now : List ℕ) → bytes ≡ line → first ≡ old ++ bytes → now ≡ first ++ codes "\n" → now ≡ old ++ (line ++ codes "\n")
line_more old line bytes first now same e f =
    f ∙ (ap (λ (l : List ℕ). l ++ codes "\n") e ∙ append_assoc old bytes (codes "\n") ∙ ap (λ (l : List ℕ). old ++ (l ++ codes "\n")) same)

pub returns : goal.returns
unfolding json_line
returns c =
    let summary : Data = summary_data c.args.bounds c.args.summary.now in
    let shown : view c.in_ok-summary_value.field-0 ≡ summary = c.in_ok-summary_value.ensures in
    let text : string_bytes c.in_ok-text.text ≡ compact_text summary = c.in_ok-text.ensures.text (ap has_float shown ∙ summary_has_no_float c.args.bounds c.args.summary.now) ∙ ap compact_text shown in
    line_more c.args.out.now.items (compact_text summary) c.as_bytes.result.now c.extend_from_slice.new.self.items c.push.new.self.items
    (c.as_bytes.ensures.value ∙ text) c.in_ok-extend_from_slice.ensures.items c.in_ok-push.ensures.items
