use Rattle.ink_report.proofs.Common.{◌≡◌, take}
use Rattle.never_cut.specs.Bounds.{greatest_of}
use Rattle.ink_report.proofs.charge_bounds.greatest_task_bound.Given as goal

abbrev pub invariant-loop-task : goal.invariant-loop-task
invariant-loop-task l = l.greatest ≡ greatest_of l.program (take l.task-index l.task-items)
