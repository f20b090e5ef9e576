use Rattle.prog_check.proofs.Common.{◌≡◌, ◌+◌, length, take, sum_by, Task}
use Rattle.ink_base.specs.declared.limits.TheConstants as limits
use Rattle.prog_check.proofs.tasks.is_code_within.Given as goal

abbrev pub invariant-loop-task : goal.invariant-loop-task
invariant-loop-task l = l.left + sum_by (λ (task : Task). length task.code) (take l.task-index l.tasks) ≡ limits.INSTRUCTIONS
