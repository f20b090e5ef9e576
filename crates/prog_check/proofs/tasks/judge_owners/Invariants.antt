use Rattle.prog_check.proofs.Common.{◌≡◌, ℕ, ◌<◌, length, None, task_def, instr_at, first_below, instr_fault}
use Rattle.task_isa.specs.Code.{IsInstr}
use Rattle.prog_check.proofs.tasks.judge_owners.Given as goal

abbrev pub invariant-loop-n : goal.invariant-loop-n
invariant-loop-n l = (l.count ≡ length (task_def l.program l.x).code) × (first_below (instr_fault l.program l.lines l.x) l.n ≡ None) × ((k : ℕ) → k < l.n → IsInstr (instr_at (task_def l.program l.x) k))
