-- A text has one answer: a job or one fault.
use Rattle.ink_image.proofs.Common.{◌≡◌, sym, ap, ◌∙◌, ℕ, Bool, true, false, List, [], ◌∷◌, Option, Some, None, Result, Ok, Err, Program, Start, JobParts, Line, Entry, section_entries, listed_of}
use Rattle.ink_base.specs.declared.fault.JobFault.{JobFault}
use Rattle.fram_words.specs.Places.{Memory, Place}
use Rattle.power_trace.specs.Parse.{whole_at}
use Rattle.ink_image.specs.declared.form.Form.{Form}
use Rattle.ink_image.specs.declared.form.Form.TheVariants.{Earlier, Today}
use Rattle.ink_image.specs.declared.image.ImageAnswer.{ImageAnswer}
use Rattle.ink_image.specs.declared.image.ImageAnswer.TheVariants.{BadWord, WrongShape, NotStanding, Worn, NoMemory}
use Rattle.ink_image.specs.Form.{form_of, IsImageIn, FailsFirst}
use Rattle.ink_image.specs.Image.{Judges, JudgesRead}
use Rattle.ink_image.specs.Reading.{read}
use Rattle.power_trace.specs.declared.tails.Tails.{Tails}
use Rattle.ink_image.specs.Before.{judged_text, is_last, last_line, IsJudgedBefore, IsMadeBehind, IsMadeBefore, IsBefore, IsJobBefore}
use Rattle.ink_image.proofs.Holding.{today_holds, earlier_holds}
use Rattle.ink_image.specs.Whole.{image_tails, first_header, IsJudged, IsMadeOf, IsJobBehind, IsJobOf}

-- at no place of an image a check fails
image_holds : (form : Form) (program : Program) (words : Memory) (p : Place) → IsImageIn form program words → FailsFirst form program words p → ⊥
image_holds Today program words p image fails = today_holds program words p image fails
image_holds Earlier program words p image fails = earlier_holds program words p image fails

words_once : (form : Form) (program : Program) (listed words : List ℕ) (start : Start) (e : ImageAnswer) → Judges form program listed words (Ok start) → Judges form program listed words (Err e) → ⊥
words_once form program listed words start WrongShape gives refuses = refuses gives.count
words_once form program listed words start (NotStanding addr) gives refuses = image_holds form program _ refuses.place gives.image refuses.failing
words_once form program listed words start Worn gives refuses = gives.fresh refuses.worn
words_once form program listed words start (BadWord line) gives refuses = refuses
words_once form program listed words start NoMemory gives refuses = refuses

read_once : (form : Form) (program : Program) (listed : List ℕ) (r : Result (List ℕ) ℕ) (start : Start) (e : ImageAnswer) → JudgesRead form program listed r (Ok start) → JudgesRead form program listed r (Err e) → ⊥
read_once form program listed (Err line) start e gives refuses = absurd (cc)
read_once form program listed (Ok words) start e gives refuses = words_once form program listed words start e gives refuses

judged_once : (further : Option ℕ) (job whole : JobParts) (form : Form) (header : ℕ) (section : List Entry) (fault : JobFault) →
    IsJudged further job form header section (Ok whole) → IsJudged further job form header section (Err fault) → ⊥
judged_once (Some line) job whole form header section fault is refused = absurd (cc)
judged_once None job whole form header section fault is refused = read_once form job.program (listed_of job) (read section) is.0 refused.0 is.1 refused.1

made_once : (job whole : JobParts) (ls : List Line) (fault : JobFault) → IsMadeOf job ls (Ok whole) → IsMadeOf job ls (Err fault) → ⊥
made_once job whole [] fault is refused = absurd (cc)
made_once job whole (header ∷ ls) fault is refused = judged_once (first_header ls) job whole (form_of header.words) header.number (section_entries ls) fault is refused

behind_once : (r : Result (JobParts × List Line) JobFault) (whole : JobParts) (fault : JobFault) → IsJobBehind r (Ok whole) → IsJobBehind r (Err fault) → ⊥
behind_once (Err first) whole fault is refused = absurd (cc)
behind_once (Ok x) whole fault is refused = made_once x.0 whole x.1 fault is refused

-- a text has no job where it has a fault
pub one_answer : (text : List ℕ) (whole : JobParts) (fault : JobFault) → IsJobOf text (Ok whole) → IsJobOf text (Err fault) → ⊥
one_answer text whole fault is refused = behind_once (whole_at image_tails text) whole fault is refused

-- nor has it both before its last section
judged_before_once : (text : List ℕ) (r : Result (Option ℕ) JobFault) (job : JobParts) (x : JobParts × Option ℕ) (form : Form) (header : ℕ) (section : List Entry) (fault : JobFault) →
    IsJudgedBefore text r job form header section (Ok x) → IsJudgedBefore text r job form header section (Err fault) → ⊥
judged_before_once text (Err first) job x form header section fault is refused = absurd (cc)
judged_before_once text (Ok last) job x form header section fault is refused = judged_once None job x.0 form header section fault is.0 refused

behind_header_once : (b : Bool) (tails : Tails) (text : List ℕ) (job : JobParts) (header : Line) (ls : List Line) (x : JobParts × Option ℕ) (fault : JobFault) →
    IsMadeBehind b tails text job header ls (Ok x) → IsMadeBehind b tails text job header ls (Err fault) → ⊥
behind_header_once true tails text job header ls x fault is refused = absurd (cc)
behind_header_once false tails text job header ls x fault is refused =
    judged_before_once text (last_line tails ls) job x (form_of header.words) header.number (section_entries ls) fault is refused

made_before_once : (tails : Tails) (text : List ℕ) (job : JobParts) (ls : List Line) (x : JobParts × Option ℕ) (fault : JobFault) →
    IsMadeBefore tails text job ls (Ok x) → IsMadeBefore tails text job ls (Err fault) → ⊥
made_before_once tails text job [] x fault is refused = absurd (cc)
made_before_once tails text job (header ∷ ls) x fault is refused = behind_header_once (is_last tails header.words) tails text job header ls x fault is refused

before_once : (tails : Tails) (text : List ℕ) (r : Result (JobParts × List Line) JobFault) (x : JobParts × Option ℕ) (fault : JobFault) →
    IsBefore tails text r (Ok x) → IsBefore tails text r (Err fault) → ⊥
before_once tails text (Err first) x fault is refused = absurd (cc)
before_once tails text (Ok y) x fault is refused = made_before_once tails text y.0 y.1 x fault is refused

pub one_before : (tails : Tails) (text : List ℕ) (x : JobParts × Option ℕ) (fault : JobFault) → IsJobBefore tails text (Ok x) → IsJobBefore tails text (Err fault) → ⊥
one_before tails text x fault is refused = before_once tails (judged_text tails text) (whole_at tails (judged_text tails text)) x fault is refused

-- and its last section begins at one place
judged_last : (text : List ℕ) (last : Result (Option ℕ) JobFault) (job : JobParts) (form : Form) (header : ℕ) (section : List Entry) (x y : JobParts × Option ℕ) →
    IsJudgedBefore text last job form header section (Ok x) → IsJudgedBefore text last job form header section (Ok y) → x.1 ≡ y.1
judged_last text (Err first) job form header section x y is same = absurd (let clash : Ok x ≡ Err first = is in cc)
judged_last text (Ok last) job form header section x y is same = is.1 ∙ sym same.1

header_last : (b : Bool) (tails : Tails) (text : List ℕ) (job : JobParts) (header : Line) (ls : List Line) (x y : JobParts × Option ℕ) →
    IsMadeBehind b tails text job header ls (Ok x) → IsMadeBehind b tails text job header ls (Ok y) → x.1 ≡ y.1
header_last true tails text job header ls x y is same = let e : Ok x ≡ Ok y = is ∙ sym same in let inner : x ≡ y = cc in ap (λ (z : JobParts × Option ℕ). z.1) inner
header_last false tails text job header ls x y is same = judged_last text (last_line tails ls) job (form_of header.words) header.number (section_entries ls) x y is same

made_last : (tails : Tails) (text : List ℕ) (job : JobParts) (ls : List Line) (x y : JobParts × Option ℕ) → IsMadeBefore tails text job ls (Ok x) → IsMadeBefore tails text job ls (Ok y) → x.1 ≡ y.1
made_last tails text job [] x y is same = let e : Ok x ≡ Ok y = is ∙ sym same in let inner : x ≡ y = cc in ap (λ (z : JobParts × Option ℕ). z.1) inner
made_last tails text job (header ∷ ls) x y is same = header_last (is_last tails header.words) tails text job header ls x y is same

before_last : (tails : Tails) (text : List ℕ) (r : Result (JobParts × List Line) JobFault) (x y : JobParts × Option ℕ) → IsBefore tails text r (Ok x) → IsBefore tails text r (Ok y) → x.1 ≡ y.1
before_last tails text (Err first) x y is same = absurd (let clash : Ok x ≡ Err first = is in cc)
before_last tails text (Ok z) x y is same = made_last tails text z.0 z.1 x y is same

pub one_last : (tails : Tails) (text : List ℕ) (x y : JobParts × Option ℕ) → IsJobBefore tails text (Ok x) → IsJobBefore tails text (Ok y) → x.1 ≡ y.1
one_last tails text x y is same = before_last tails (judged_text tails text) (whole_at tails (judged_text tails text)) x y is same
