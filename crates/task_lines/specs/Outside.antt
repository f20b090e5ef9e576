-- The lines outside of tasks.
use Rattle.std.specs.Prelude.{ℕ, List, [], length, Some, Result, Ok, Err, codes, if◌then◌else◌}
use Rattle.std.specs.Str.{bytes_eq}
use Rattle.ink_base.specs.Lines.{Word}
use Rattle.ink_base.specs.declared.fault.Cause.{Cause}
use Rattle.ink_base.specs.declared.fault.Cause.TheVariants.{UnknownWord}
use Rattle.ink_base.specs.declared.limits.TheConstants as limits
use Rattle.ink_base.specs.Gives.{◌>>=◌}
use Rattle.ink_base.specs.Checks.{fixed_in, field_in, end_in}
use Rattle.task_lines.specs.declared.draft.DraftTask.{DraftTask}
use Rattle.task_lines.specs.declared.draft.Draft.{Draft}
use Rattle.task_lines.specs.Named.{new_name_in, declared_in}
use Rattle.task_lines.specs.Forms.{room, thread_name, thread_line, source_line}
use Rattle.task_lines.specs.Devices.{pipe_line, timer_line}

-- the name of a task
abbrev pub task_name : DraftTask → Word
task_name t = t.name

-- task NAME thread THREAD limit M: the task is open from here on
unfoldable pub task_line : Draft → ℕ → List Word → Result Draft Cause
task_line d line ws = do
  free ← room limits.TASKS (length d.tasks)
  name ← new_name_in task_name d.tasks ws
  label ← fixed_in (codes "thread") name.1
  thread ← declared_in thread_name d.threads label
  limit ← field_in (codes "limit") 1 limits.TASK_LIMIT thread.1
  e ← end_in limit.1
  Ok (record d { current = Some (record { line = line; name = name.0; thread = record { 0 = thread.0 }; limit = limit.0; before = d.count; code = []; labels = [] }) })

-- a line outside of tasks
unfoldable pub outside_line : Draft → ℕ → Word → List Word → Result Draft Cause
outside_line d line w ws =
    if bytes_eq w (codes "thread") then thread_line d line ws
    else (if bytes_eq w (codes "source") then source_line d ws
    else (if bytes_eq w (codes "pipe") then pipe_line d ws
    else (if bytes_eq w (codes "timer") then timer_line d ws
    else (if bytes_eq w (codes "task") then task_line d line ws
    else Err UnknownWord))))
