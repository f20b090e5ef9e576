use Rattle.program_text.proofs.Common.{◌≡◌, ◌++◌, take, All, task_text, IsTypedTask}
use Rattle.std.specs.Prelude.{flat_map}
use Rattle.program_text.proofs.program.put_tasks.Given as goal

abbrev pub invariant-loop-task : goal.invariant-loop-task
invariant-loop-task l = (l.out.items ≡ l.fn.out.items ++ flat_map (task_text l.program) (take l.task-index l.tasks)) × All IsTypedTask (take l.task-index l.tasks)
