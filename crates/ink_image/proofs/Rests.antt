-- The lines that a section leaves are among those that it was given.
use Rattle.ink_image.proofs.Common.{◌≡◌, ℕ, List, [], ◌∷◌, Result, Ok, subst, inl, inr, codes, AllByRecursion, Word, Line, is_header}
use Rattle.std.proofs.lemmas.Bool.{cases_Bool}
use Rattle.ink_base.specs.declared.fault.Cause.{Cause}
use Rattle.ink_base.specs.declared.fault.JobFault.{JobFault}
use Rattle.ink_base.specs.Gives.{◌>>◌, at_line}
use Rattle.ink_text.specs.Section.{next_number, next_header, header_end, lines_in, section_in}
use Rattle.task_isa.specs.declared.lines.Lines.{Lines}
use Rattle.task_isa.specs.declared.program.Program.{Program}
use Rattle.task_lines.specs.declared.draft.Draft.{Draft}
use Rattle.task_lines.specs.Task.{line_in}
use Rattle.task_asm.specs.Section.{empty_draft, lines_of_draft, draft_end, program_in}
use Rattle.task_asm.specs.Targets.{program_of}
use Rattle.power_trace.specs.Sensors.{sensor_line, sensors_in}
use Rattle.power_trace.proofs.Inverted.{bound_line}
use Rattle.std.specs.Prelude.{replicate}

-- what holds of all of these lines
abbrev Of : (Line → Type 0) → List Line → Type 0
Of P ls = AllByRecursion P ls

lines_rest : {S : Type 0} (P : Line → Type 0) (f : S → ℕ → List Word → Result S Cause) (s : S) (ls : List Line) (x : S × List Line) →
    lines_in f s ls ≡ Ok x → Of P ls → Of P x.1
unfolding lines_in
lines_rest {S} P f s [] x h all = let same : ◌≡◌ {A = S × List Line} (s, []) x = cc in subst (λ (y : S × List Line). Of P y.1) same tt
lines_rest {S} P f s (line ∷ ls) x h all =
    elim (cases_Bool (is_header line.words)) [
      | inl header ↦
          let k = rw header at h in
          let same : ◌≡◌ {A = S × List Line} (s, line ∷ ls) x = cc in
          subst (λ (y : S × List Line). Of P y.1) same all
      | inr other ↦
          let k = rw other at h in
          let first = bound_line (at_line line.number (f s line.number line.words)) (λ next. lines_in f next ls) x k in
          lines_rest P f first.0 ls x first.2 all.1
    ]

pub section_rest : {S : Type 0} (P : Line → Type 0) (f : S → ℕ → List Word → Result S Cause) (count : ℕ) (s : S) (ls : List Line) (x : S × List Line) →
    section_in count f s ls ≡ Ok x → Of P ls → Of P x.1
unfolding section_in
section_rest P f count s [] x h all = absurd (cc)
section_rest P f count s (header ∷ ls) x h all =
    let read = bound_line (at_line header.number (header_end header.words)) (λ e. lines_in f s ls) x h in
    lines_rest P f s ls x read.2 all.1

pub program_rest : (P : Line → Type 0) (count : ℕ) (ls : List Line) (x : Program × Lines × List Line) → program_in count ls ≡ Ok x → Of P ls → Of P x.2
unfolding program_in
program_rest P count ls x h all =
    let made : Draft × List Line → Program → Result (Program × Lines × List Line) JobFault = λ y program. Ok (program, lines_of_draft (next_number count ls) y.0, y.1) in
    let closed : Draft × List Line → Unit {0} → Result (Program × Lines × List Line) JobFault = λ y e. program_of y.0 >> made y in
    let ended : Draft × List Line → Result (Program × Lines × List Line) JobFault = λ y. draft_end count y.0 y.1 >> closed y in
    let begun = bound_line (next_header count (codes "[program]") ls) (λ e. section_in count line_in empty_draft ls >> ended) x h in
    let read = bound_line (section_in count line_in empty_draft ls) ended x begun.2 in
    let end = bound_line (draft_end count read.0.0 read.0.1) (closed read.0) x read.2 in
    let program = bound_line (program_of read.0.0) (made read.0) x end.2 in
    let same : ◌≡◌ {A = Program × Lines × List Line} (program.0, lines_of_draft (next_number count ls) read.0.0, read.0.1) x = cc in
    subst (λ (y : Program × Lines × List Line). Of P y.2) same (section_rest P line_in count empty_draft ls read.0 read.1 all)

pub sensors_rest : (P : Line → Type 0) (count sources : ℕ) (ls : List Line) (x : List (List ℕ) × List Line) → sensors_in count sources ls ≡ Ok x → Of P ls → Of P x.1
unfolding sensors_in
sensors_rest P count sources ls x h all =
    let close : List (List ℕ) × List Line → Result (List (List ℕ) × List Line) JobFault = λ y. next_header count (codes "[power]") y.1 >> (λ e. Ok y) in
    let read = bound_line (section_in count sensor_line (replicate sources []) ls) close x h in
    let closed = bound_line (next_header count (codes "[power]") read.0.1) (λ e. Ok read.0) x read.2 in
    let same : read.0 ≡ x = cc in
    subst (λ (y : List (List ℕ) × List Line). Of P y.1) same (section_rest P sensor_line count (replicate sources []) ls read.0 read.1 all)
