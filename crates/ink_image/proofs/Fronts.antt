-- The lines behind a job's charges, and those in front of them, none of which is the header of a last section.
use Rattle.std.specs.Prelude.{◌||◌}
use Rattle.ink_image.proofs.Common.{◌≡◌, ℕ, Bool, true, false, ◌&&◌, List, [], ◌∷◌, ◌++◌, length, Result, Ok, refl, sym, ap, ◌∙◌, subst, inl, inr, append_assoc, codes, AllByRecursion, Word, Line, lines, lines_of, is_header, JobParts, Program}
use Rattle.std.specs.Prelude.{replicate, is_some, None}
use Rattle.std.specs.Str.{bytes_eq}
use Rattle.std.proofs.lemmas.Bool.{cases_Bool}
use Rattle.std.proofs.lemmas.Slice.Eq.{bytes_eq-Decides}
use Rattle.ink_base.specs.declared.fault.Cause.{Cause}
use Rattle.ink_base.specs.declared.fault.JobFault.{JobFault}
use Rattle.ink_base.specs.Gives.{◌>>◌, at_line}
use Rattle.ink_base.specs.TokenLines.{with_words}
use Rattle.ink_base.specs.Tokens.{bytes_in}
use Rattle.ink_text.specs.Section.{next_number, next_header, header_in, header_end, lines_in, section_in}
use Rattle.task_isa.specs.declared.lines.Lines.{Lines}
use Rattle.task_lines.specs.declared.draft.Draft.{Draft}
use Rattle.task_lines.specs.Task.{line_in}
use Rattle.task_asm.specs.Section.{empty_draft, lines_of_draft, draft_end, program_in, program_at}
use Rattle.task_asm.specs.Targets.{program_of}
use Rattle.power_trace.specs.declared.charges.Charges.{Charges}
use Rattle.power_trace.specs.declared.parse.Parts.{Parts}
use Rattle.power_trace.specs.declared.tails.Tails.{Tails}
use Rattle.power_trace.specs.Sensors.{sensor_line, sensors_in}
use Rattle.power_trace.specs.Power.{charge_line, no_charges, power_end, power_in}
use Rattle.power_trace.specs.Parse.{checked, parts_at, whole_at}
use Rattle.power_trace.proofs.Inverted.{bound_line, in_line}
use Rattle.ink_image.specs.Before.{is_last}
use Rattle.ink_image.proofs.PlainTexts.{with_charges, with_readings, with_program, parts_by}

abbrev pub IsOther : Tails → Line → Type 0
IsOther tails line = is_last tails line.words ≡ false

abbrev pub Others : Tails → List Line → Type 0
Others tails ls = AllByRecursion (IsOther tails) ls

-- the first line, where there is one
abbrev FirstOther : Tails → List Line → Type 0
FirstOther tails [] = Unit {0}
FirstOther tails (line ∷ ls) = IsOther tails line

-- lines behind others
abbrev pub Behind : Tails → List Line → List Line → Type 0
Behind tails ls rest = (front : List Line) × (front ++ rest ≡ ls) × Others tails front

pub others_both : (tails : Tails) (xs ys : List Line) → Others tails xs → Others tails ys → Others tails (xs ++ ys)
others_both tails [] ys h k = k
others_both tails (x ∷ xs) ys h k = (h.0, others_both tails xs ys h.1 k)

behind_all : (tails : Tails) (ls : List Line) → Behind tails ls ls
behind_all tails ls = ([], refl, tt)

behind_cons : (tails : Tails) (line : Line) (ls rest : List Line) → IsOther tails line → Behind tails ls rest → Behind tails (line ∷ ls) rest
behind_cons tails line ls rest other b = (line ∷ b.0, ap (λ (x : List Line). line ∷ x) b.1, (other, b.2))

behind_both : (tails : Tails) (xs ys zs : List Line) → Behind tails xs ys → Behind tails ys zs → Behind tails xs zs
behind_both tails xs ys zs b d =
    (b.0 ++ d.0, append_assoc b.0 d.0 zs ∙ ap (λ (x : List Line). b.0 ++ x) d.1 ∙ b.1, others_both tails b.0 d.0 b.2 d.2)

-- what is no header of a last section
neither : (tails : Tails) (w : Word) (ws : List Word) → bytes_eq w (codes "[claim]") ≡ false → bytes_eq w (codes "[radio]") ≡ false → is_last tails (w ∷ ws) ≡ false
neither tails w ws no_claim no_radio =
    rw (no_claim, no_radio)
    (elim tails.claim as (λ (a : Bool). ((a && false) || (tails.radio && false)) ≡ false) [
      | true ↦ elim tails.radio as (λ (b : Bool). (b && false) ≡ false) [ true ↦ refl | false ↦ refl ]
      | false ↦ elim tails.radio as (λ (b : Bool). (b && false) ≡ false) [ true ↦ refl | false ↦ refl ]
    ])

named_other : (tails : Tails) (expected w : Word) (ws : List Word) → bytes_eq expected (codes "[claim]") ≡ false → bytes_eq expected (codes "[radio]") ≡ false → bytes_eq w expected ≡ true →
    is_last tails (w ∷ ws) ≡ false
named_other tails expected w ws no_claim no_radio is =
    let same : w ≡ expected = (bytes_eq-Decides w expected).0 is in
    subst (λ (v : Word). is_last tails (v ∷ ws) ≡ false) (sym same) (neither tails expected ws no_claim no_radio)

not_named : (expected w : Word) (ws : List Word) → is_header (expected ∷ ws) ≡ true → is_header (w ∷ ws) ≡ false → bytes_eq w expected ≡ false
not_named expected w ws header plain =
    elim (cases_Bool (bytes_eq w expected)) [
      | inl is ↦
          let same : w ≡ expected = (bytes_eq-Decides w expected).0 is in
          let clash : is_header (w ∷ ws) ≡ true = ap (λ (v : Word). is_header (v ∷ ws)) same ∙ header in
          absurd (cc)
      | inr other ↦ other
    ]

plain_other : (tails : Tails) (ws : List Word) → is_header ws ≡ false → is_last tails ws ≡ false
plain_other tails [] plain = refl
plain_other tails (w ∷ ws) plain = neither tails w ws (not_named (codes "[claim]") w ws refl plain) (not_named (codes "[radio]") w ws refl plain)

-- a header that was expected
header_other : (tails : Tails) (expected : Word) (ws : List Word) (e : Unit {0}) → bytes_eq expected (codes "[claim]") ≡ false → bytes_eq expected (codes "[radio]") ≡ false →
    header_in expected ws ≡ Ok e → is_last tails ws ≡ false
unfolding header_in
header_other tails expected [] e no_claim no_radio h = absurd (cc)
header_other tails expected (w ∷ ws) e no_claim no_radio h =
    elim (cases_Bool (bytes_eq w expected)) [
      | inl is ↦ named_other tails expected w ws no_claim no_radio is
      | inr other ↦ let k = rw other at h in absurd (cc)
    ]

next_other : (tails : Tails) (expected : Word) (count : ℕ) (ls : List Line) (e : Unit {0}) → bytes_eq expected (codes "[claim]") ≡ false → bytes_eq expected (codes "[radio]") ≡ false →
    next_header count expected ls ≡ Ok e → FirstOther tails ls
unfolding next_header
next_other tails expected count [] e no_claim no_radio h = tt
next_other tails expected count (line ∷ ls) e no_claim no_radio h =
    header_other tails expected line.words e no_claim no_radio (in_line line.number (header_in expected line.words) e h)

-- the lines of a section, and the section
lines_behind : {S : Type 0} (tails : Tails) (f : S → ℕ → List Word → Result S Cause) (s : S) (ls : List Line) (x : S × List Line) → lines_in f s ls ≡ Ok x → Behind tails ls x.1
unfolding lines_in
lines_behind {S} tails f s [] x h =
    let same : ◌≡◌ {A = S × List Line} (s, []) x = cc in subst (λ (y : S × List Line). Behind tails [] y.1) same (behind_all tails [])
lines_behind {S} tails f s (line ∷ ls) x h =
    elim (cases_Bool (is_header line.words)) [
      | inl header ↦
          let k = rw header at h in
          let same : ◌≡◌ {A = S × List Line} (s, line ∷ ls) x = cc in
          subst (λ (y : S × List Line). Behind tails (line ∷ ls) y.1) same (behind_all tails (line ∷ ls))
      | inr other ↦
          let k = rw other at h in
          let first = bound_line (at_line line.number (f s line.number line.words)) (λ next. lines_in f next ls) x k in
          behind_cons tails line ls x.1 (plain_other tails line.words other) (lines_behind tails f first.0 ls x first.2)
    ]

section_behind : {S : Type 0} (tails : Tails) (f : S → ℕ → List Word → Result S Cause) (count : ℕ) (s : S) (ls : List Line) (x : S × List Line) → FirstOther tails ls →
    section_in count f s ls ≡ Ok x → Behind tails ls x.1
unfolding section_in
section_behind tails f count s [] x first h = absurd (cc)
section_behind tails f count s (header ∷ ls) x first h =
    let read = bound_line (at_line header.number (header_end header.words)) (λ e. lines_in f s ls) x h in
    behind_cons tails header ls x.1 first (lines_behind tails f s ls x read.2)

-- the next section's header is behind the program
closed_other : (tails : Tails) (count : ℕ) (d : Draft) (ls : List Line) (e : Unit {0}) → draft_end count d ls ≡ Ok e → FirstOther tails ls
unfolding draft_end
closed_other tails count d ls e h =
    elim (cases_Bool (is_some d.current)) [
      | inl pending ↦ let k = rw pending at h in absurd (cc)
      | inr done ↦ next_other tails (codes "[sensors]") count ls e refl refl (rw done at h)
    ]

program_behind : (tails : Tails) (count : ℕ) (ls : List Line) (x : Program × Lines × List Line) → program_in count ls ≡ Ok x → Behind tails ls x.2 × FirstOther tails x.2
unfolding program_in
program_behind tails count ls x h =
    let made : Draft × List Line → Program → Result (Program × Lines × List Line) JobFault = λ y program. Ok (program, lines_of_draft (next_number count ls) y.0, y.1) in
    let closed : Draft × List Line → Unit {0} → Result (Program × Lines × List Line) JobFault = λ y e. program_of y.0 >> made y in
    let ended : Draft × List Line → Result (Program × Lines × List Line) JobFault = λ y. draft_end count y.0 y.1 >> closed y in
    let begun = bound_line (next_header count (codes "[program]") ls) (λ e. section_in count line_in empty_draft ls >> ended) x h in
    let read = bound_line (section_in count line_in empty_draft ls) ended x begun.2 in
    let end = bound_line (draft_end count read.0.0 read.0.1) (closed read.0) x read.2 in
    let program = bound_line (program_of read.0.0) (made read.0) x end.2 in
    let same : ◌≡◌ {A = Program × Lines × List Line} (program.0, lines_of_draft (next_number count ls) read.0.0, read.0.1) x = cc in
    subst (λ (y : Program × Lines × List Line). Behind tails ls y.2 × FirstOther tails y.2) same (
      section_behind tails line_in count empty_draft ls read.0 (next_other tails (codes "[program]") count ls begun.0 refl refl begun.1) read.1,
      closed_other tails count read.0.0 read.0.1 end.0 end.1,
    )

sensors_behind : (tails : Tails) (count sources : ℕ) (ls : List Line) (x : List (List ℕ) × List Line) → FirstOther tails ls → sensors_in count sources ls ≡ Ok x →
    Behind tails ls x.1 × FirstOther tails x.1
unfolding sensors_in
sensors_behind tails count sources ls x first h =
    let close : List (List ℕ) × List Line → Result (List (List ℕ) × List Line) JobFault = λ y. next_header count (codes "[power]") y.1 >> (λ e. Ok y) in
    let read = bound_line (section_in count sensor_line (replicate sources []) ls) close x h in
    let closed = bound_line (next_header count (codes "[power]") read.0.1) (λ e. Ok read.0) x read.2 in
    let same : read.0 ≡ x = cc in
    subst (λ (y : List (List ℕ) × List Line). Behind tails ls y.1 × FirstOther tails y.1) same
    (section_behind tails sensor_line count (replicate sources []) ls read.0 first read.1, next_other tails (codes "[power]") count read.0.1 closed.0 refl refl closed.1)

power_behind : (tails ends : Tails) (count sources : ℕ) (ls : List Line) (x : Charges × List Line) → FirstOther tails ls → power_in count ends sources ls ≡ Ok x → Behind tails ls x.1
unfolding power_in
power_behind tails ends count sources ls x first h =
    let close : Charges × List Line → Result (Charges × List Line) JobFault = λ y. power_end count ends (length y.0.list) y.1 >> (λ e. Ok y) in
    let read = bound_line (section_in count charge_line (no_charges sources) ls) close x h in
    let closed = bound_line (power_end count ends (length read.0.0.list) read.0.1) (λ e. Ok read.0) x read.2 in
    let same : read.0 ≡ x = cc in
    subst (λ (y : Charges × List Line). Behind tails ls y.1) same (section_behind tails charge_line count (no_charges sources) ls read.0 first read.1)

charges_behind : (tails ends : Tails) (count : ℕ) (program : Program) (s : List (List ℕ) × List Line) (x : Parts × List Line) → FirstOther tails s.1 →
    with_charges count ends program s ≡ Ok x → Behind tails s.1 x.1
unfolding with_charges
charges_behind tails ends count program s x first h =
    let made : Charges × List Line → Result (Parts × List Line) JobFault =
    λ y. Ok (record { job = record { program = program; readings = s.0; charges = y.0.list; start = None }; charge_lines = y.0.lines }, y.1) in
    let read = bound_line (power_in count ends (length program.sources) s.1) made x h in
    let same : ◌≡◌ {A = Parts × List Line} (record { job = record { program = program; readings = s.0; charges = read.0.0.list; start = None }; charge_lines = read.0.0.lines }, read.0.1) x = cc in
    subst (λ (y : Parts × List Line). Behind tails s.1 y.1) same (power_behind tails ends count (length program.sources) s.1 read.0 first read.1)

parts_behind : (tails ends : Tails) (text : List ℕ) (x : Parts × List Line) → parts_at ends text ≡ Ok x → Behind tails (with_words (lines_of text)) x.1
unfolding with_readings with_program
parts_behind tails ends text x h =
    let count : ℕ = length (lines text) in
    let good = bound_line (bytes_in text) (λ good. program_at text >> with_program count ends) x (sym (parts_by ends text) ∙ h) in
    let p = bound_line (program_at text) (with_program count ends) x good.2 in
    let program = bound_line (checked p.0.0 p.0.1) (with_readings count ends p.0.2) x p.2 in
    let s = bound_line (sensors_in count (length program.0.sources) p.0.2) (with_charges count ends program.0) x program.2 in
    let one = program_behind tails count (with_words (lines_of text)) p.0 p.1 in
    let two = sensors_behind tails count (length program.0.sources) p.0.2 s.0 one.1 s.1 in
    behind_both tails (with_words (lines_of text)) p.0.2 x.1 one.0 (behind_both tails p.0.2 s.0.1 x.1 two.0 (charges_behind tails ends count program.0 s.0 x two.1 s.2))

-- the lines behind a job's charges are the last of the text
pub whole_behind : (tails ends : Tails) (text : List ℕ) (x : JobParts × List Line) → whole_at ends text ≡ Ok x → Behind tails (with_words (lines_of text)) x.1
unfolding whole_at
whole_behind tails ends text x h =
    let read = bound_line (parts_at ends text) (λ y. Ok (y.0.job, y.1)) x h in
    let same : ◌≡◌ {A = JobParts × List Line} (read.0.0.job, read.0.1) x = cc in
    subst (λ (y : JobParts × List Line). Behind tails (with_words (lines_of text)) y.1) same (parts_behind tails ends text read.0 read.1)
