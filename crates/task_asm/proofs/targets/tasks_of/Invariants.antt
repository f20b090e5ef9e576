use Rattle.ink_base.specs.Gives.{each}
use Rattle.ink_base.proofs.Each.{Goes}
use Rattle.task_asm.specs.Targets.{task_of}
use Rattle.task_asm.proofs.targets.tasks_of.Given as goal

abbrev pub invariant-loop-task : goal.invariant-loop-task
invariant-loop-task l = Goes (task_of l.tasks) l.made l.tasks l.task-index (each (task_of l.tasks) l.tasks)
