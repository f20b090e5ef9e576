-- The lengths of those before.
use Rattle.ink_layout.proofs.Common.{◌≡◌, ◌++◌, map, take, task_words}
use Rattle.ink_layout.proofs.starts.add_tasks.Given as goal

abbrev pub invariant-loop-task : goal.invariant-loop-task
invariant-loop-task l = l.lengths.items ≡ l.initial.lengths.items ++ map task_words (take l.task-index l.tasks)
