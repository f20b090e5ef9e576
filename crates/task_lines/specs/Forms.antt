-- The declarations of threads and sources: what each line adds to the draft, or its first fault from the left.
use Rattle.std.specs.Prelude.{ℕ, Bool, List, [], ◌∷◌, ◌++◌, length, Option, Some, None, Result, Ok, Err, nat_lt, ◌==◌, codes, if◌then◌else◌}
use Rattle.std.specs.List.{list_any}
use Rattle.ink_base.specs.Lines.{Word}
use Rattle.ink_base.specs.declared.fault.Cause.{Cause}
use Rattle.ink_base.specs.declared.fault.Cause.TheVariants.{Duplicate, OverLimit}
use Rattle.ink_base.specs.declared.limits.TheConstants as limits
use Rattle.ink_base.specs.Gives.{◌>>=◌}
use Rattle.ink_base.specs.Checks.{field_in, end_in}
use Rattle.task_isa.specs.declared.program.ThreadDef.{ThreadDef}
use Rattle.task_lines.specs.declared.draft.Draft.{Draft}
use Rattle.task_lines.specs.Named.{new_name_in, declared_in}

-- one more is within the limit
abbrev pub room : ℕ → ℕ → Result (Unit {0}) Cause
room most count = if nat_lt count most then Ok tt else Err OverLimit

-- the name of a thread
abbrev pub thread_name : ThreadDef → Word
thread_name t = t.name

-- whether a thread has this priority
abbrev pub has_priority : List ThreadDef → ℕ → Bool
has_priority threads n = list_any (λ (t : ThreadDef). t.priority == n) threads

-- a priority that no thread has
unfoldable pub priority_in : List ThreadDef → List Word → Result (ℕ × List Word) Cause
priority_in threads ws = do
  n ← field_in (codes "priority") 0 limits.PRIORITY ws
  if has_priority threads n.0 then Err Duplicate else Ok n

-- nothing, or `expires D`, and the end of the line
unfoldable pub expires_in : List Word → Result (Option ℕ) Cause
expires_in [] = Ok None
expires_in (w ∷ ws) = do
  ticks ← field_in (codes "expires") 0 limits.TICKS (w ∷ ws)
  e ← end_in ticks.1
  Ok (Some ticks.0)

-- thread NAME priority P queue N state S log L [expires D]
unfoldable pub thread_line : Draft → ℕ → List Word → Result Draft Cause
thread_line d line ws = do
  free ← room limits.THREADS (length d.threads)
  name ← new_name_in thread_name d.threads ws
  priority ← priority_in d.threads name.1
  queue ← field_in (codes "queue") limits.FEWEST_QUEUE_PLACES limits.QUEUE_PLACES priority.1
  state ← field_in (codes "state") 0 limits.STATE_NUMBERS queue.1
  log ← field_in (codes "log") 1 limits.LOG_PLACES state.1
  expires ← expires_in log.1
  Ok (record d {
    threads = d.threads ++ record { name = name.0; priority = priority.0; queue = queue.0; state = state.0; log = log.0; expires = expires } ∷ [];
    thread_lines = d.thread_lines ++ line ∷ [];
  })

-- source THREAD
unfoldable pub source_line : Draft → List Word → Result Draft Cause
source_line d ws = do
  free ← room limits.SOURCES (length d.sources)
  thread ← declared_in thread_name d.threads ws
  e ← end_in thread.1
  Ok (record d { sources = d.sources ++ record { 0 = thread.0 } ∷ [] })
