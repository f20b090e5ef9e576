use Rattle.std.proofs.Common.{◌≡◌, map, take}
use Rattle.task_asm.specs.Section.{code_lines}
use Rattle.task_asm.proofs.finish.lines_of_code.Given as goal

abbrev pub invariant-loop-task : goal.invariant-loop-task
invariant-loop-task l = l.made ≡ map code_lines (take l.task-index l.tasks)
