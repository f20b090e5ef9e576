-- The lines of a task: what each adds to the draft, or its first fault from the left.
use Rattle.std.specs.Prelude.{ℕ, ◌+◌, ◌-◌, ◌&&◌, List, [], ◌∷◌, ◌++◌, length, Option, Some, None, Result, Ok, is_some, nat_lt, ◌==◌, codes, take, if◌then◌else◌}
use Rattle.std.specs.List.{slice_index}
use Rattle.std.specs.Str.{bytes_eq}
use Rattle.ink_base.specs.Lines.{Word}
use Rattle.ink_base.specs.declared.fault.Cause.{Cause}
use Rattle.ink_base.specs.declared.limits.TheConstants as limits
use Rattle.ink_base.specs.Gives.{◌>>=◌}
use Rattle.ink_base.specs.Checks.{end_in}
use Rattle.task_lines.specs.declared.draft.DraftTask.{DraftTask}
use Rattle.task_lines.specs.declared.draft.Draft.{Draft}
use Rattle.task_lines.specs.Labels.{offset_of, with_label}
use Rattle.task_lines.specs.Named.{fresh_of}
use Rattle.task_lines.specs.Ops.{op_of}
use Rattle.task_lines.specs.Operands.{instr_in}
use Rattle.task_lines.specs.Forms.{room}
use Rattle.task_lines.specs.Outside.{outside_line}

-- what stands before a colon at the end of a word
abbrev pub label_of : Word → Option Word
label_of w = if nat_lt 0 (length w) && slice_index w (length w - 1) == 58 then Some (take (length w - 1) w) else None

-- NAME: the label of the next instruction, whose offset is the number of the task's instructions so far
unfoldable pub label_line : Draft → DraftTask → Word → List Word → Result Draft Cause
label_line d task name ws = do
  fresh ← fresh_of (is_some (offset_of task.labels name)) name
  e ← end_in ws
  Ok (record d { current = Some (record task { labels = with_label task.labels fresh (d.count - task.before) }) })

-- an instruction; the limit is one on all tasks' instructions
unfoldable pub instr_line : Draft → DraftTask → ℕ → Word → List Word → Result Draft Cause
instr_line d task line w ws = do
  op ← op_of w
  free ← room limits.INSTRUCTIONS d.count
  instr ← instr_in d task.thread op ws
  Ok (record d { current = Some (record task { code = task.code ++ record { line = line; instr = instr } ∷ [] }); count = d.count + 1 })

-- end
unfoldable pub end_line : Draft → DraftTask → List Word → Result Draft Cause
end_line d task ws = do
  e ← end_in ws
  Ok (record d { tasks = d.tasks ++ task ∷ [] })

-- a label where the line's first word is one, and else an instruction
abbrev pub by_label : Draft → DraftTask → ℕ → Word → List Word → Option Word → Result Draft Cause
by_label d task line w ws (Some name) = label_line d task name ws
by_label d task line w ws None = instr_line d task line w ws

-- a line inside of a task, which is taken out of the draft
unfoldable pub inside_line : Draft → DraftTask → ℕ → Word → List Word → Result Draft Cause
inside_line d task line w ws = if bytes_eq w (codes "end") then end_line d task ws else by_label d task line w ws (label_of w)

-- a line outside of tasks, or inside of the task that is open
abbrev pub in_place : Option DraftTask → Draft → ℕ → Word → List Word → Result Draft Cause
in_place None d line w ws = outside_line d line w ws
in_place (Some task) d line w ws = inside_line d task line w ws

-- a line of the section
unfoldable pub line_in : Draft → ℕ → List Word → Result Draft Cause
line_in d line [] = Ok d
line_in d line (w ∷ ws) = in_place d.current (record d { current = None }) line w ws
