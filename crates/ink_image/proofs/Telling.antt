-- Where the job before a last section is told, so is where that section begins.
use Rattle.ink_image.proofs.Common.{◌≡◌, ℕ, Bool, true, false, List, [], ◌∷◌, ◌++◌, Option, Some, None, Result, Ok, Err, refl, sym, ap, subst, inl, inr, AllByRecursion, Word, Line, Entry, lines_of, is_header, section_entries, JobParts}
use Rattle.std.specs.List.{Contains}
use Rattle.std.proofs.lemmas.Bool.{cases_Bool}
use Rattle.std.proofs.lemmas.List.Elements.{All-contains_itself, All-filter, All-from_recursion, recursion_from_All}
use Rattle.ink_base.specs.declared.fault.JobFault.{JobFault}
use Rattle.ink_base.specs.TokenLines.{has_words, with_words}
use Rattle.ink_base.specs.Gives.{at_line}
use Rattle.ink_text.specs.Section.{header_end}
use Rattle.power_trace.specs.declared.tails.Tails.{Tails}
use Rattle.power_trace.specs.Parse.{whole_at}
use Rattle.power_trace.proofs.Inverted.{bound_line}
use Rattle.ink_image.specs.declared.form.Form.{Form}
use Rattle.ink_image.specs.Form.{form_of}
use Rattle.ink_image.specs.Before.{line_end, judged_text, is_last, last_line, behind_line, IsJudgedBefore, IsMadeBehind, IsMadeBefore, IsBefore, IsJobBefore}
use Rattle.ink_image.specs.Last.{TellsLast}
use Rattle.ink_image.proofs.Fronts.{IsOther, Others, others_both, whole_behind}

-- what holds of the last lines holds of what is told of them: P of the line of the header, or that there is none
Told : (Line → Type 0) → Tails → (text : List ℕ) → List Line → Option ℕ → Type 0
Told P tails text ls (Some at) = (line : Line) × P line × (is_last tails line.words ≡ true) × (at ≡ line_end text line.number)
Told P tails text ls None = Others tails ls

-- the same by the number of the line
Numbered : (Line → Type 0) → Tails → List Line → Option ℕ → Type 0
Numbered P tails ls (Some number) = (line : Line) × P line × (is_last tails line.words ≡ true) × (number ≡ line.number)
Numbered P tails ls None = Others tails ls

numbered_more : (P : Line → Type 0) (tails : Tails) (line : Line) (ls : List Line) (number : Option ℕ) → IsOther tails line → Numbered P tails ls number → Numbered P tails (line ∷ ls) number
unfolding Numbered
numbered_more P tails line ls (Some number) other told = told
numbered_more P tails line ls None other told = (other, told)

last_numbered : (P : Line → Type 0) (tails : Tails) (ls : List Line) (number : Option ℕ) → AllByRecursion P ls → last_line tails ls ≡ Ok number → Numbered P tails ls number
unfolding last_line Numbered
last_numbered P tails [] number all is = let same : None ≡ number = cc in subst (Numbered P tails []) same tt
last_numbered P tails (line ∷ ls) number all is =
    elim (cases_Bool (is_last tails line.words)) [
      | inl last ↦
          let k = rw last at is in
          let alone = bound_line (at_line line.number (header_end line.words)) (λ e. Ok (Some line.number)) number k in
          let same : Some line.number ≡ number = cc in
          subst (Numbered P tails (line ∷ ls)) same (line, all.0, last, refl)
      | inr other ↦ elim (cases_Bool (is_header line.words)) [
        | inl header ↦ let k = rw (other, header) at is in absurd (cc)
        | inr plain ↦ numbered_more P tails line ls number other (last_numbered P tails ls number all.1 (rw (other, plain) at is))
      ]
    ]

numbered_told : (P : Line → Type 0) (tails : Tails) (text : List ℕ) (ls : List Line) (number : Option ℕ) → Numbered P tails ls number → Told P tails text ls (behind_line text number)
unfolding Numbered Told
numbered_told P tails text ls (Some number) told = (told.0, told.1, told.2, ap (line_end text) told.3)
numbered_told P tails text ls None told = told

told_more : (P : Line → Type 0) (tails : Tails) (text : List ℕ) (line : Line) (ls : List Line) (last : Option ℕ) → IsOther tails line → Told P tails text ls last → Told P tails text (line ∷ ls) last
unfolding Told
told_more P tails text line ls (Some at) other told = told
told_more P tails text line ls None other told = (other, told)

judged_told : (P : Line → Type 0) (tails : Tails) (text : List ℕ) (job whole : JobParts) (form : Form) (header : ℕ) (section : List Entry) (ls : List Line) (r : Result (Option ℕ) JobFault)
    (last : Option ℕ) → AllByRecursion P ls → last_line tails ls ≡ r → IsJudgedBefore text r job form header section (Ok (whole, last)) → Told P tails text ls last
judged_told P tails text job whole form header section ls (Err fault) last all at is = absurd (cc)
judged_told P tails text job whole form header section ls (Ok number) last all at is =
    subst (Told P tails text ls) (sym is.1) (numbered_told P tails text ls number (last_numbered P tails ls number all at))

told_of : Result (JobParts × Option ℕ) JobFault → Option ℕ
told_of (Ok x) = x.1
told_of (Err fault) = None

made_told : (P : Line → Type 0) (tails : Tails) (text : List ℕ) (job whole : JobParts) (ls : List Line) (last : Option ℕ) → AllByRecursion P ls →
    IsMadeBefore tails text job ls (Ok (whole, last)) → Told P tails text ls last
unfolding Told told_of
made_told P tails text job whole [] last all is = subst (Told P tails text []) (sym (ap told_of is)) tt
made_told P tails text job whole (header ∷ ls) last all is =
    elim (cases_Bool (is_last tails header.words)) [
      | inl here ↦
          let made = subst (λ (b : Bool). IsMadeBehind b tails text job header ls (Ok (whole, last))) here is in
          subst (Told P tails text (header ∷ ls)) (sym (ap told_of made)) (header, all.0, here, refl)
      | inr other ↦
          let made = subst (λ (b : Bool). IsMadeBehind b tails text job header ls (Ok (whole, last))) other is in
          told_more P tails text header ls last other
          (judged_told P tails text job whole (form_of header.words) header.number (section_entries ls) ls (last_line tails ls) last all.1 refl made)
    ]

-- from the last lines to all of them
all_behind : (P : Line → Type 0) (front rest : List Line) → AllByRecursion P (front ++ rest) → AllByRecursion P rest
all_behind P [] rest all = all
all_behind P (line ∷ front) rest all = all_behind P front rest all.1

wordless : (tails : Tails) (ws : List Word) → has_words ws ≡ false → is_last tails ws ≡ false
wordless tails [] none = refl
wordless tails (w ∷ ws) none = absurd (cc)

others_worded : (tails : Tails) (ls : List Line) → Others tails (with_words ls) → Others tails ls
others_worded tails [] others = tt
others_worded tails (line ∷ ls) others =
    elim (cases_Bool (has_words line.words)) [
      | inl some ↦ let k : Others tails (line ∷ with_words ls) = rw some at others in (k.0, others_worded tails ls k.1)
      | inr none ↦ (wordless tails line.words none, others_worded tails ls (rw none at others))
    ]

told_whole : (tails : Tails) (text : List ℕ) (front ls : List Line) (last : Option ℕ) → front ++ ls ≡ with_words (lines_of text) → Others tails front →
    Told (Contains (lines_of text)) tails text ls last → TellsLast tails text last
unfolding Told
told_whole tails text front ls (Some at) parts others told = record { line = told.0; there = told.1; header = told.2; ends = told.3 }
told_whole tails text front ls None parts others told =
    All-from_recursion (IsOther tails) (lines_of text) (others_worded tails (lines_of text) (subst (Others tails) parts (others_both tails front ls others told)))

whole_told : (tails : Tails) (text : List ℕ) (job whole : JobParts) (ls : List Line) (last : Option ℕ) → whole_at tails text ≡ Ok (job, ls) →
    IsMadeBefore tails text job ls (Ok (whole, last)) → TellsLast tails text last
whole_told tails text job whole ls last at is =
    let P : Line → Type 0 = Contains (lines_of text) in
    let behind = whole_behind tails tails text (job, ls) at in
    let all : AllByRecursion P (with_words (lines_of text)) =
    recursion_from_All P (with_words (lines_of text)) (All-filter (λ (l : Line). has_words l.words) P (lines_of text) (All-contains_itself (lines_of text))) in
    told_whole tails text behind.0 ls last behind.1 behind.2
    (made_told P tails text job whole ls last (all_behind P behind.0 ls (subst (AllByRecursion P) (sym behind.1) all)) is)

before_told : (tails : Tails) (text : List ℕ) (r : Result (JobParts × List Line) JobFault) (whole : JobParts) (last : Option ℕ) → whole_at tails text ≡ r →
    IsBefore tails text r (Ok (whole, last)) → TellsLast tails text last
before_told tails text (Err fault) whole last at is = absurd (cc)
before_told tails text (Ok x) whole last at is = whole_told tails text x.0 whole x.1 last at is

pub last_told : (tails : Tails) (text : List ℕ) (job : JobParts) (last : Option ℕ) → IsJobBefore tails text (Ok (job, last)) → TellsLast tails (judged_text tails text) last
last_told tails text job last is = before_told tails (judged_text tails text) (whole_at tails (judged_text tails text)) job last refl is
