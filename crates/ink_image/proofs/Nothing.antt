-- Where only images may follow the charges, nothing stands last.
use Rattle.ink_image.proofs.Common.{◌≡◌, ℕ, List, [], ◌∷◌, Bool, false, Option, Some, None, Result, Ok, Err, refl, ap, subst, inl, inr, JobParts, Word, Line, Entry, is_header, section_entries}
use Rattle.std.proofs.lemmas.Bool.{cases_Bool}
use Rattle.ink_base.specs.declared.fault.Cause.TheVariants.{BadSection}
use Rattle.ink_base.specs.declared.fault.JobFault.{JobFault}
use Rattle.ink_base.specs.declared.fault.JobAnswer.{JobAnswer}
use Rattle.ink_base.specs.declared.fault.JobAnswer.TheVariants as job_answers
use Rattle.power_trace.specs.Parse.{whole_at}
use Rattle.ink_image.specs.declared.form.Form.{Form}
use Rattle.ink_image.specs.Form.{form_of}
use Rattle.ink_image.specs.Whole.{image_tails, first_header, IsJudged, IsMadeOf, IsJobBehind, IsJobOf, Answers}
use Rattle.ink_image.specs.Before.{is_last, last_line, IsJudgedBefore, IsMadeBehind, IsMadeBefore, IsBefore, IsJobBefore, by_itself}

none_last : (words : List Word) → is_last image_tails words ≡ false
none_last [] = refl
none_last (w ∷ ws) = refl

-- a further header is a fault
refusal : Option ℕ → Result (Option ℕ) JobFault
refusal None = Ok None
refusal (Some line) = Err (record { line = line; cause = BadSection })

only_refused : (ls : List Line) → last_line image_tails ls ≡ refusal (first_header ls)
unfolding last_line refusal
only_refused [] = refl
only_refused (l ∷ ls) =
    elim (cases_Bool (is_header l.words)) [
      | inl header ↦ rw (none_last l.words, header) refl
      | inr other ↦ rw (none_last l.words, other) (only_refused ls)
    ]

judged_alone : (further : Option ℕ) (text : List ℕ) (job : JobParts) (form : Form) (header : ℕ) (section : List Entry) (answer : Result (JobParts × Option ℕ) JobFault) →
    IsJudgedBefore text (refusal further) job form header section answer → IsJudged further job form header section (by_itself answer)
unfolding refusal
judged_alone (Some line) text job form header section answer is = ap by_itself is
judged_alone None text job form header section (Ok x) is = is.0
judged_alone None text job form header section (Err fault) is = is

made_alone : (text : List ℕ) (job : JobParts) (ls : List Line) (answer : Result (JobParts × Option ℕ) JobFault) → IsMadeBefore image_tails text job ls answer → IsMadeOf job ls (by_itself answer)
made_alone text job [] answer is = ap by_itself is
made_alone text job (header ∷ ls) answer is =
    let image = subst (λ (last : Bool). IsMadeBehind last image_tails text job header ls answer) (none_last header.words) is in
    judged_alone (first_header ls) text job (form_of header.words) header.number (section_entries ls) answer
    (subst (λ (r : Result (Option ℕ) JobFault). IsJudgedBefore text r job (form_of header.words) header.number (section_entries ls) answer) (only_refused ls) image)

behind_alone : (text : List ℕ) (r : Result (JobParts × List Line) JobFault) (answer : Result (JobParts × Option ℕ) JobFault) → IsBefore image_tails text r answer → IsJobBehind r (by_itself answer)
behind_alone text (Err fault) answer is = ap by_itself is
behind_alone text (Ok x) answer is = made_alone text x.0 x.1 answer is

-- the job before nothing is the job of the whole text
pub whole_before : (text : List ℕ) (answer : Result (JobParts × Option ℕ) JobFault) → IsJobBefore image_tails text answer → IsJobOf text (by_itself answer)
whole_before text answer is = behind_alone text (whole_at image_tails text) answer is

pub whole_refused : (text : List ℕ) (e : JobAnswer) → Answers (IsJobBefore image_tails text) (Err e) → Answers (IsJobOf text) (Err e)
whole_refused text (job_answers.Fault fault) is = whole_before text (Err fault) is
whole_refused text job_answers.NoMemory is = tt
