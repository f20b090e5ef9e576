-- The program of a generated job has no fault, whatever its lines are.
use Rattle.power_trace.proofs.Common.{◌≡◌, None, Ok, refl, ap, soak_program}
use Rattle.task_isa.specs.declared.lines.Lines.{Lines}
use Rattle.task_isa.specs.declared.program.Program.{Program}
use Rattle.prog_check.specs.Faults.{first_below, thread_fault, source_fault, instr_fault, task_fault, limit_fault, target_fault, code_fault, meaning_fault, first_fault, verdict}

thread_right : (lines : Lines) → thread_fault soak_program lines 0 ≡ None
unfolding thread_fault
thread_right lines = refl

source_right_0 : (lines : Lines) → source_fault soak_program lines 0 ≡ None
unfolding source_fault
source_right_0 lines = refl

source_right_1 : (lines : Lines) → source_fault soak_program lines 1 ≡ None
unfolding source_fault
source_right_1 lines = refl

-- each instruction is right: no jump, and no id
instr_right : (lines : Lines) → first_below (instr_fault soak_program lines 0) 7 ≡ None
unfolding first_below instr_fault
instr_right lines = refl

task_right : (lines : Lines) → task_fault soak_program lines 0 ≡ None
unfolding task_fault
task_right lines = instr_right lines

limits_right : (lines : Lines) → limit_fault soak_program lines ≡ None
unfolding limit_fault first_below
limits_right lines = rw (thread_right lines, source_right_0 lines, source_right_1 lines, task_right lines) refl

targets_right : (lines : Lines) → first_below (target_fault soak_program lines 0) 7 ≡ None
unfolding first_below target_fault
targets_right lines = refl

code_right : (lines : Lines) → code_fault soak_program lines 0 ≡ None
unfolding code_fault
code_right lines = rw (targets_right lines) refl

meaning_right : (lines : Lines) → meaning_fault soak_program lines ≡ None
unfolding meaning_fault first_below
meaning_right lines = rw (code_right lines) refl

soak_accepted : (lines : Lines) → first_fault soak_program lines ≡ None
unfolding first_fault
soak_accepted lines = rw (limits_right lines, meaning_right lines) refl

-- so it is accepted
pub soak_verdict : (program : Program) (lines : Lines) → program ≡ soak_program → verdict program (first_fault program lines) ≡ Ok program
soak_verdict program lines is =
    let none : first_fault program lines ≡ None = rw is (soak_accepted lines) in
    ap (verdict program) none
