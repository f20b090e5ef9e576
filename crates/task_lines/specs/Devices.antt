-- Pipes and timers: their declarations, and how instructions name them.
use Rattle.std.specs.Prelude.{ℕ, List, [], ◌∷◌, ◌++◌, length, Option, Some, None, Result, Ok, Err, ◌==◌, slice_index_or, codes, if◌then◌else◌}
use Rattle.std.specs.Str.{bytes_eq}
use Rattle.ink_base.specs.Lines.{Word}
use Rattle.ink_base.specs.declared.fault.Cause.{Cause}
use Rattle.ink_base.specs.declared.fault.Cause.TheVariants.{BadOwner}
use Rattle.ink_base.specs.declared.ids.ThreadId.{ThreadId}
use Rattle.ink_base.specs.declared.limits.TheConstants as limits
use Rattle.ink_base.specs.Gives.{◌>>=◌}
use Rattle.ink_base.specs.Checks.{word_in, fixed_in, number_in, field_in, end_in}
use Rattle.task_isa.specs.Lookup.{no_pipe_def, no_timer_def}
use Rattle.task_isa.specs.declared.program.ThreadDef.{ThreadDef}
use Rattle.task_isa.specs.declared.program.PipeDef.{PipeDef}
use Rattle.task_isa.specs.declared.program.TimerDef.{TimerDef}
use Rattle.task_lines.specs.declared.draft.Draft.{Draft}
use Rattle.task_lines.specs.Named.{new_name_in, declared_in}
use Rattle.task_lines.specs.Forms.{room, thread_name}

-- the name of a pipe
abbrev pub pipe_name : PipeDef → Word
pipe_name p = p.name

-- the name of a timer
abbrev pub timer_name : TimerDef → Word
timer_name t = t.name

-- a thread other than the writer
unfoldable pub reader_in : List ThreadDef → ℕ → List Word → Result (ℕ × List Word) Cause
reader_in threads writer ws = do
  thread ← declared_in thread_name threads ws
  if thread.0 == writer then Err BadOwner else Ok thread

-- pipe NAME C from THREAD to THREAD
unfoldable pub pipe_line : Draft → List Word → Result Draft Cause
pipe_line d ws = do
  free ← room limits.PIPES (length d.pipes)
  name ← new_name_in pipe_name d.pipes ws
  places ← number_in 1 limits.PIPE_PLACES name.1
  from ← fixed_in (codes "from") places.1
  writer ← declared_in thread_name d.threads from
  to ← fixed_in (codes "to") writer.1
  reader ← reader_in d.threads writer.0 to
  e ← end_in reader.1
  Ok (record d { pipes = d.pipes ++ record { name = name.0; places = places.0; writer = record { 0 = writer.0 }; reader = record { 0 = reader.0 } } ∷ [] })

-- due D period P, and the end of the line
unfoldable pub due_in : List Word → Result (Option ℕ × ℕ) Cause
due_in ws = do
  due ← field_in (codes "due") 0 limits.TICKS ws
  period ← field_in (codes "period") 0 limits.TICKS due.1
  e ← end_in period.1
  Ok (Some due.0, period.0)

-- the end of the line of a timer that is off
unfoldable pub off_in : List Word → Result (Option ℕ × ℕ) Cause
off_in ws = do
  e ← end_in ws
  Ok (None, 0)

-- when a timer is first due, and its period
unfoldable pub start_in : List Word → Result (Option ℕ × ℕ) Cause
start_in ws = do
  w ← word_in ws
  if bytes_eq w.0 (codes "off") then off_in w.1 else due_in ws

-- timer NAME thread THREAD off, or timer NAME thread THREAD due D period P
unfoldable pub timer_line : Draft → List Word → Result Draft Cause
timer_line d ws = do
  free ← room limits.TIMERS (length d.timers)
  name ← new_name_in timer_name d.timers ws
  label ← fixed_in (codes "thread") name.1
  thread ← declared_in thread_name d.threads label
  start ← start_in thread.1
  Ok (record d { timers = d.timers ++ record { name = name.0; thread = record { 0 = thread.0 }; due = start.0; period = start.1 } ∷ [] })

-- what the thread has to own is its own
abbrev pub owned_by : ThreadId → ThreadId → Result (Unit {0}) Cause
owned_by thread owner = if owner.0 == thread.0 then Ok tt else Err BadOwner

-- a pipe that the thread writes
unfoldable pub own_pipe_in : List PipeDef → ThreadId → List Word → Result (ℕ × List Word) Cause
own_pipe_in pipes thread ws = do
  pipe ← declared_in pipe_name pipes ws
  own ← owned_by thread (slice_index_or pipes pipe.0 no_pipe_def).writer
  Ok pipe

-- a timer of the thread
unfoldable pub own_timer_in : List TimerDef → ThreadId → List Word → Result (ℕ × List Word) Cause
own_timer_in timers thread ws = do
  timer ← declared_in timer_name timers ws
  own ← owned_by thread (slice_index_or timers timer.0 no_timer_def).thread
  Ok timer
