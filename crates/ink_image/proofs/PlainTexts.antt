-- A text without an image has the job that ends with its charges.
use Rattle.ink_image.proofs.Common.{◌≡◌, ℕ, false, List, [], ◌∷◌, length, None, Result, Ok, Err, refl, sym, ap, ◌∙◌, subst, inl, inr, codes, AllByRecursion, Word, Line, lines, lines_of, JobParts}
use Rattle.std.specs.Prelude.{◌↔◌}
use Rattle.std.specs.Str.{bytes_eq}
use Rattle.std.proofs.lemmas.Bool.{cases_Bool}
use Rattle.std.proofs.lemmas.List.Elements.{All-filter, recursion_from_All}
use Rattle.ink_base.specs.declared.fault.JobFault.{JobFault}
use Rattle.ink_base.specs.Gives.{◌>>◌, at_line}
use Rattle.ink_base.specs.TokenLines.{has_words, with_words}
use Rattle.ink_base.specs.Tokens.{bytes_in}
use Rattle.ink_text.specs.Section.{section_in}
use Rattle.task_isa.specs.declared.lines.Lines.{Lines}
use Rattle.task_isa.specs.declared.program.Program.{Program}
use Rattle.task_asm.specs.Section.{program_at}
use Rattle.power_trace.specs.declared.charges.Charges.{Charges}
use Rattle.power_trace.specs.declared.parse.Parts.{Parts}
use Rattle.power_trace.specs.declared.tails.Tails.{Tails}
use Rattle.power_trace.specs.Tails.{no_tails, tail_header}
use Rattle.power_trace.specs.Sensors.{sensors_in}
use Rattle.power_trace.specs.Power.{charge_line, no_charges, power_end, power_in}
use Rattle.power_trace.specs.Parse.{checked, parts_at, whole_at, job_at}
use Rattle.power_trace.proofs.Inverted.{bound_line, in_line}
use Rattle.ink_image.specs.Plain.{begins_image, HasNoImage}
use Rattle.ink_image.specs.Whole.{image_tails, IsJobBehind, IsJobOf}
use Rattle.ink_image.proofs.Rests.{section_rest, program_rest, sensors_rest}

-- a line that isn't the header of an image
IsPlain : Line → Type 0
IsPlain line = begins_image line.words ≡ false

-- two readings of the same first part
bind_same : {A B : Type 0} (r : Result A JobFault) (f g : A → Result B JobFault) → ((x : A) → r ≡ Ok x → f x ≡ g x) → (r >> f) ≡ (r >> g)
bind_same (Ok x) f g h = h x refl
bind_same (Err e) f g h = refl

tail_same : (charges : ℕ) (ws : List Word) → begins_image ws ≡ false → tail_header image_tails charges ws ≡ tail_header no_tails charges ws
unfolding tail_header
tail_same charges [] h = refl
tail_same charges (w ∷ ws) h =
    elim (cases_Bool (bytes_eq w (codes "[image1]"))) [
      | inl is ↦ let k = rw is at h in absurd (cc)
      | inr other ↦ let k : bytes_eq w (codes "[image2]") ≡ false = rw other at h in rw (other, k) refl
    ]

end_same : (count charges : ℕ) (ls : List Line) → AllByRecursion IsPlain ls → power_end count image_tails charges ls ≡ power_end count no_tails charges ls
unfolding power_end IsPlain
end_same count charges [] all = refl
end_same count charges (line ∷ ls) all = ap (at_line line.number) (tail_same charges line.words all.0)

-- the end of the section that a tail may follow
closed : (count : ℕ) → Tails → Charges × List Line → Result (Charges × List Line) JobFault
closed count tails x = power_end count tails (length x.0.list) x.1 >> (λ e. Ok x)

power_same : (count sources : ℕ) (ls : List Line) → AllByRecursion IsPlain ls → power_in count image_tails sources ls ≡ power_in count no_tails sources ls
unfolding power_in closed
power_same count sources ls all =
    bind_same (section_in count charge_line (no_charges sources) ls) (closed count image_tails) (closed count no_tails)
    (λ x is. ap (λ (r : Result (Unit {0}) JobFault). r >> (λ e. Ok x)) (end_same count (length x.0.list) x.1 (section_rest IsPlain charge_line count (no_charges sources) ls x is all)))

-- where nothing may follow, nothing is left
none_follows : (charges : ℕ) (ws : List Word) (x : Unit {0}) → tail_header no_tails charges ws ≡ Ok x → ⊥
unfolding tail_header
none_follows charges [] x h = absurd (cc)
none_follows charges (w ∷ ws) x h = absurd (cc)

end_left : (count charges : ℕ) (ls : List Line) (x : Unit {0}) → power_end count no_tails charges ls ≡ Ok x → ls ≡ []
unfolding power_end
end_left count charges [] x h = refl
end_left count charges (line ∷ ls) x h = absurd (none_follows charges line.words x (in_line line.number (tail_header no_tails charges line.words) x h))

power_left : (count sources : ℕ) (ls : List Line) (x : Charges × List Line) → power_in count no_tails sources ls ≡ Ok x → x.1 ≡ []
unfolding power_in closed
power_left count sources ls x h =
    let read = bound_line (section_in count charge_line (no_charges sources) ls) (closed count no_tails) x h in
    let end = bound_line (power_end count no_tails (length read.0.0.list) read.0.1) (λ e. Ok read.0) x read.2 in
    let same : read.0 ≡ x = cc in
    subst (λ (y : Charges × List Line). y.1 ≡ []) same (end_left count (length read.0.0.list) read.0.1 end.0 end.1)

-- the parts of a job, from its charges on
unfoldable pub with_charges : (count : ℕ) → Tails → Program → List (List ℕ) × List Line → Result (Parts × List Line) JobFault
with_charges count tails program s =
    power_in count tails (length program.sources) s.1 >> (λ x.
    Ok (record { job = record { program = program; readings = s.0; charges = x.0.list; start = None }; charge_lines = x.0.lines }, x.1))

-- from its readings on
unfoldable pub with_readings : (count : ℕ) → Tails → List Line → Program → Result (Parts × List Line) JobFault
with_readings count tails ls program = sensors_in count (length program.sources) ls >> with_charges count tails program

-- and from its program on
unfoldable pub with_program : (count : ℕ) → Tails → Program × Lines × List Line → Result (Parts × List Line) JobFault
with_program count tails p = checked p.0 p.1 >> with_readings count tails p.2

pub parts_by : (tails : Tails) (text : List ℕ) → parts_at tails text ≡ (bytes_in text >> (λ good. program_at text >> with_program (length (lines text)) tails))
unfolding parts_at with_charges with_readings with_program
parts_by tails text = refl

charges_same : (count : ℕ) (program : Program) (s : List (List ℕ) × List Line) → AllByRecursion IsPlain s.1 → with_charges count image_tails program s ≡ with_charges count no_tails program s
unfolding with_charges
charges_same count program s all = ap (λ (r : Result (Charges × List Line) JobFault). r >> (λ x.
    Ok (record { job = record { program = program; readings = s.0; charges = x.0.list; start = None }; charge_lines = x.0.lines }, x.1))) (power_same count (length program.sources) s.1 all)

readings_same : (count : ℕ) (ls : List Line) (program : Program) → AllByRecursion IsPlain ls → with_readings count image_tails ls program ≡ with_readings count no_tails ls program
unfolding with_readings
readings_same count ls program all =
    bind_same (sensors_in count (length program.sources) ls) (with_charges count image_tails program) (with_charges count no_tails program)
    (λ s is. charges_same count program s (sensors_rest IsPlain count (length program.sources) ls s is all))

program_same : (count : ℕ) (p : Program × Lines × List Line) → AllByRecursion IsPlain p.2 → with_program count image_tails p ≡ with_program count no_tails p
unfolding with_program
program_same count p all = bind_same (checked p.0 p.1) (with_readings count image_tails p.2) (with_readings count no_tails p.2) (λ program is. readings_same count p.2 program all)

parts_same : (text : List ℕ) → HasNoImage text → parts_at image_tails text ≡ parts_at no_tails text
unfolding IsPlain
parts_same text none =
    let all : AllByRecursion IsPlain (with_words (lines_of text)) =
    recursion_from_All IsPlain (with_words (lines_of text)) (All-filter (λ (l : Line). has_words l.words) IsPlain (lines_of text) none) in
    parts_by image_tails text
    ∙ bind_same (bytes_in text) (λ good. program_at text >> with_program (length (lines text)) image_tails) (λ good. program_at text >> with_program (length (lines text)) no_tails)
    (λ good ok. bind_same (program_at text) (with_program (length (lines text)) image_tails) (with_program (length (lines text)) no_tails)
    (λ p is. program_same (length (lines text)) p (program_rest IsPlain (length (lines text)) (with_words (lines_of text)) p is all)))
    ∙ sym (parts_by no_tails text)

charges_left : (count : ℕ) (program : Program) (s : List (List ℕ) × List Line) (x : Parts × List Line) → with_charges count no_tails program s ≡ Ok x → x.1 ≡ []
unfolding with_charges
charges_left count program s x h =
    let made : Charges × List Line → Result (Parts × List Line) JobFault =
    λ y. Ok (record { job = record { program = program; readings = s.0; charges = y.0.list; start = None }; charge_lines = y.0.lines }, y.1) in
    let read = bound_line (power_in count no_tails (length program.sources) s.1) made x h in
    let same : ◌≡◌ {A = Parts × List Line} (record { job = record { program = program; readings = s.0; charges = read.0.0.list; start = None }; charge_lines = read.0.0.lines }, read.0.1) x = cc in
    subst (λ (y : Parts × List Line). y.1 ≡ []) same (power_left count (length program.sources) s.1 read.0 read.1)

parts_left : (text : List ℕ) (x : Parts × List Line) → parts_at no_tails text ≡ Ok x → x.1 ≡ []
unfolding with_readings with_program
parts_left text x h =
    let count : ℕ = length (lines text) in
    let good = bound_line (bytes_in text) (λ good. program_at text >> with_program count no_tails) x (sym (parts_by no_tails text) ∙ h) in
    let p = bound_line (program_at text) (with_program count no_tails) x good.2 in
    let program = bound_line (checked p.0.0 p.0.1) (with_readings count no_tails p.0.2) x p.2 in
    let s = bound_line (sensors_in count (length program.0.sources) p.0.2) (with_charges count no_tails program.0) x program.2 in
    charges_left count program.0 s.0 x s.2

whole_left : (text : List ℕ) (x : JobParts × List Line) → whole_at no_tails text ≡ Ok x → x.1 ≡ []
unfolding whole_at
whole_left text x h =
    let read = bound_line (parts_at no_tails text) (λ y. Ok (y.0.job, y.1)) x h in
    let same : ◌≡◌ {A = JobParts × List Line} (read.0.0.job, read.0.1) x = cc in
    subst (λ (y : JobParts × List Line). y.1 ≡ []) same (parts_left text read.0 read.1)

whole_same : (text : List ℕ) → HasNoImage text → whole_at image_tails text ≡ whole_at no_tails text
unfolding whole_at
whole_same text none = ap (λ (r : Result (Parts × List Line) JobFault). r >> (λ y. Ok (y.0.job, y.1))) (parts_same text none)

-- where nothing is left, the job is the one before
nothing_behind : (r : Result (JobParts × List Line) JobFault) (answer : Result JobParts JobFault) → ((x : JobParts × List Line) → r ≡ Ok x → x.1 ≡ []) →
    IsJobBehind r answer ↔ ((r >> (λ x. Ok x.0)) ≡ answer)
nothing_behind (Err fault) answer left = (λ h. sym h, λ h. sym h)
nothing_behind (Ok (job, [])) answer left = (λ h. sym h, λ h. sym h)
nothing_behind (Ok (job, line ∷ rest)) answer left = absurd (let none : line ∷ rest ≡ [] = left (job, line ∷ rest) refl in cc)

pub plain_text : (text : List ℕ) (answer : Result JobParts JobFault) → HasNoImage text → IsJobOf text answer ↔ (job_at text ≡ answer)
unfolding job_at
plain_text text answer none =
    subst (λ (r : Result (JobParts × List Line) JobFault). IsJobBehind r answer ↔ ((whole_at no_tails text >> (λ x. Ok x.0)) ≡ answer)) (sym (whole_same text none))
    (nothing_behind (whole_at no_tails text) answer (whole_left text))
