-- What a draft keeps while it is read.
use Rattle.std.specs.Prelude.{◌<◌, length}
use Rattle.std.specs.Option.{ForSome}
use Rattle.ink_base.specs.declared.limits.TheConstants as limits
use Rattle.task_lines.specs.declared.draft.DraftTask.{DraftTask}
use Rattle.task_lines.specs.declared.draft.Draft.{Draft}

-- the task that is open has its place among the tasks that a program may have
abbrev pub HasPlace : Draft → Type 0
HasPlace d = ForSome d.current (λ (task : DraftTask). length d.tasks < limits.TASKS)
