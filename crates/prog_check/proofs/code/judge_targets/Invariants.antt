use Rattle.prog_check.proofs.Common.{◌≡◌, length, None, task_def, first_below, target_fault}
use Rattle.prog_check.proofs.code.judge_targets.Given as goal

abbrev pub invariant-loop-n : goal.invariant-loop-n
invariant-loop-n l = (l.count ≡ length (task_def l.program l.x).code) × (first_below (target_fault l.program l.lines l.x) l.n ≡ None)
