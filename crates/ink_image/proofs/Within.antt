-- Where a last section begins, the text goes that far.
use Rattle.ink_image.proofs.Common.{ℕ, ◌≤◌, cond, Bool, true, false, List, [], ◌∷◌, length, Option, Some, None, Result, Ok, Err, sym, ap, subst, arith, JobParts, Line, Entry, lines_of, section_entries}
use Rattle.std.specs.Prelude.{IfOk, IfSome}
use Rattle.std.proofs.lemmas.List.{length-take}
use Rattle.ink_base.specs.declared.fault.JobAnswer.{JobAnswer}
use Rattle.ink_base.specs.declared.fault.JobFault.{JobFault}
use Rattle.power_trace.specs.declared.tails.Tails.{Tails}
use Rattle.power_trace.specs.Parse.{whole_at}
use Rattle.ink_image.specs.declared.form.Form.{Form}
use Rattle.ink_image.specs.Form.{form_of}
use Rattle.ink_image.specs.Whole.{Answers}
use Rattle.ink_image.specs.Before.{line_end, claim_line, up_to_line, judged_text, is_last, last_line, behind_line, IsJudgedBefore, IsMadeBehind, IsMadeBefore, IsBefore, IsJobBefore}
use Rattle.ink_image.proofs.Places.{line_end_within}

-- the offset is one of the text
abbrev IsWithin : List ℕ → Option ℕ → Type 0
IsWithin text last = IfSome last (λ at. at ≤ length text)

line_within : (text : List ℕ) (line : Option ℕ) → IsWithin text (behind_line text line)
line_within text None = tt
line_within text (Some number) = line_end_within text number

judged_within : (text : List ℕ) (r : Result (Option ℕ) JobFault) (job whole : JobParts) (last : Option ℕ) (form : Form) (header : ℕ) (section : List Entry) →
    IsJudgedBefore text r job form header section (Ok (whole, last)) → IsWithin text last
judged_within text (Err fault) job whole last form header section is = absurd (cc)
judged_within text (Ok line) job whole last form header section is = subst (IsWithin text) (sym is.1) (line_within text line)

last_of : Result (JobParts × Option ℕ) JobFault → Option ℕ
last_of (Ok x) = x.1
last_of (Err fault) = None

behind_within : (b : Bool) (tails : Tails) (text : List ℕ) (job whole : JobParts) (last : Option ℕ) (header : Line) (ls : List Line) →
    IsMadeBehind b tails text job header ls (Ok (whole, last)) → IsWithin text last
unfolding last_of
behind_within true tails text job whole last header ls is = subst (IsWithin text) (sym (ap last_of is)) (line_end_within text header.number)
behind_within false tails text job whole last header ls is =
    judged_within text (last_line tails ls) job whole last (form_of header.words) header.number (section_entries ls) is

made_within : (tails : Tails) (text : List ℕ) (job whole : JobParts) (last : Option ℕ) (ls : List Line) → IsMadeBefore tails text job ls (Ok (whole, last)) → IsWithin text last
unfolding last_of
made_within tails text job whole last [] is = subst (IsWithin text) (sym (ap last_of is)) tt
made_within tails text job whole last (header ∷ ls) is = behind_within (is_last tails header.words) tails text job whole last header ls is

before_within : (tails : Tails) (text : List ℕ) (r : Result (JobParts × List Line) JobFault) (whole : JobParts) (last : Option ℕ) → IsBefore tails text r (Ok (whole, last)) → IsWithin text last
before_within tails text (Err fault) whole last is = absurd (cc)
before_within tails text (Ok x) whole last is = made_within tails text x.0 whole last x.1 is

-- what is judged is no longer than the text
up_to_shorter : (text : List ℕ) (line : Option ℕ) → length (up_to_line text line) ≤ length text
up_to_shorter text None = omega arith
up_to_shorter text (Some number) = omega (arith, length-take (line_end text number) text)

judged_shorter : (tails : Tails) (text : List ℕ) → length (judged_text tails text) ≤ length text
judged_shorter tails text =
    elim tails.claim as (λ (b : Bool). length (cond b (up_to_line text (claim_line (lines_of text))) text) ≤ length text) [
      | true ↦ up_to_shorter text (claim_line (lines_of text))
      | false ↦ omega arith
    ]

within_more : (text more : List ℕ) (last : Option ℕ) → length text ≤ length more → IsWithin text last → IsWithin more last
within_more text more None le is = tt
within_more text more (Some at) le is = omega (arith, is)

pub last_within : (tails : Tails) (text : List ℕ) (answer : Result (JobParts × Option ℕ) JobAnswer) → Answers (IsJobBefore tails text) answer →
    IfOk answer (λ x. IfSome x.1 (λ at. at ≤ length text))
last_within tails text (Ok x) is =
    within_more (judged_text tails text) text x.1 (judged_shorter tails text)
    (before_within tails (judged_text tails text) (whole_at tails (judged_text tails text)) x.0 x.1 is)
last_within tails text (Err e) is = tt
