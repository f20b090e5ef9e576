use Rattle.prog_check.proofs.Common.{◌≡◌, ℕ, ◌<◌, length, None, task_def, HasFittingCode, first_below, task_fault}
use Rattle.prog_check.proofs.tasks.judge_tasks.Given as goal

abbrev pub invariant-loop-x : goal.invariant-loop-x
invariant-loop-x l = (l.count ≡ length l.program.tasks) × (first_below (task_fault l.program l.lines) l.x ≡ None) × ((k : ℕ) → k < l.x → HasFittingCode (task_def l.program k))
