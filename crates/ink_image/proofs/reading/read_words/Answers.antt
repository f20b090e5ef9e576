use Rattle.ink_image.proofs.Common.{◌≡◌, ℕ, List, [], sym, ap, ◌∙◌, Vec, eqb-true, nil_from_length, words_of, Line, token_lines, line_entries, section_entries, onto, read}
use Rattle.std.specs.declared.alloc.Global.{Global}
use Rattle.ink_image.proofs.Sections.{section_ends, section_over, line_goes_on, line_fails, answer_fails}
use Rattle.ink_image.proofs.reading.read_words.Goals as goal

pub returns-then-is_header : goal.returns-then-is_header
returns-then-is_header c =
    let l : Line = record { number = c.split_line-line.result.0; words = words_of c.args.text.now c.split_line-line.result.1.now } in
    sym c.lines.invariant ∙ ap (λ (ls : List Line). onto c.lines.words.items (read (section_entries ls))) (c.split_line-line.ensures.line c.args.text.now)
    ∙ section_ends c.lines.words.items l (token_lines c.args.text.now c.split_line-line.result.2.now) (sym c.is_header.ensures ∙ c.if-is_header.true)

pub returns-in-Err : goal.returns-in-Err
returns-in-Err c =
    let l : Line = record { number = c.split_line-line.result.0; words = words_of c.args.text.now c.split_line-line.result.1.now } in
    answer_fails {X = Vec ℕ Global} (λ words. words.items) c.lines.words.items c.read_line.new.words.items c.in-Err.e
    (read (line_entries l.number l.words)) (read (section_entries (token_lines c.args.text.now c.args.tokens.now))) c.in-Err.ensures
    (λ line h. sym c.lines.invariant ∙ ap (λ (ls : List Line). onto c.lines.words.items (read (section_entries ls))) (c.split_line-line.ensures.line c.args.text.now)
    ∙ line_fails c.lines.words.items l (token_lines c.args.text.now c.split_line-line.result.2.now) line (sym c.is_header.ensures ∙ c.if-is_header.false) h)

pub lines-preserved : goal.lines-preserved
lines-preserved c =
    let l : Line = record { number = c.split_line-line.result.0; words = words_of c.args.text.now c.split_line-line.result.1.now } in
    line_goes_on c.lines.words.items c.read_line.new.words.items l (token_lines c.args.text.now c.split_line-line.result.2.now)
    (sym c.is_header.ensures ∙ c.if-is_header.false) c.in_default.ensures
    ∙ ap (λ (ls : List Line). onto c.lines.words.items (read (section_entries ls))) (sym (c.split_line-line.ensures.line c.args.text.now))
    ∙ c.lines.invariant

pub returns : goal.returns
returns c =
    let none : c.lines.rest.now ≡ [] = nil_from_length c.lines.rest.now (eqb-true _ _ (sym c.is_empty.ensures ∙ c.lines-test.false)) in
    sym c.lines.invariant ∙ ap (λ ts. onto c.lines.words.items (read (section_entries (token_lines c.args.text.now ts)))) none ∙ section_over c.lines.words.items
