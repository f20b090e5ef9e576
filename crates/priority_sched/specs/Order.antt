-- The order in which a scan visits the threads.
use Rattle.std.specs.Prelude.{ℕ, zero, suc, ◌<◌, ◌≤◌, ◌&&◌, nat_lt, Bool, true, length, if◌then◌else◌, Option, Some, None}
use Rattle.ink_base.specs.declared.ids.ThreadId.{ThreadId}
use Rattle.task_isa.specs.declared.program.Program.{Program}
use Rattle.prog_check.specs.Lookup.{thread_def}

-- the priority that a thread declares
abbrev pub priority_of : Program → ℕ → ℕ
priority_of program t = (thread_def program t).priority

-- the thread is above the best one so far, if there is one
abbrev pub is_above : Program → ℕ → Option ThreadId → Bool
is_above program t None = true
is_above program t (Some best) = nat_lt (priority_of program best.0) (priority_of program t)

-- the thread is below the bound, and above the best one so far
abbrev pub is_next : Program → (bound t : ℕ) → Option ThreadId → Bool
is_next program bound t best = nat_lt (priority_of program t) bound && is_above program t best

-- the better one of a thread and the best one so far
abbrev pub better : Program → (bound t : ℕ) → Option ThreadId → Option ThreadId
better program bound t best = if is_next program bound t best then Some (record { 0 = t }) else best

-- the thread of the greatest priority below a bound, among the first so many
abbrev pub next_among : Program → (bound count : ℕ) → Option ThreadId
next_among program bound zero = None
next_among program bound (suc t) = better program bound t (next_among program bound t)

-- and among all
abbrev pub next_below : Program → (bound : ℕ) → Option ThreadId
next_below program bound = next_among program bound (length program.threads)

-- A thread of the first so many has the greatest priority below the bound, or there is none below it.
abbrev pub IsHighest : Program → (bound count : ℕ) → Option ThreadId → Type 0
IsHighest program bound count None = (u : ℕ) → u < count → bound ≤ priority_of program u
IsHighest program bound count (Some t) =
    (t.0 < count) × (priority_of program t.0 < bound)
    × ((u : ℕ) → u < count → priority_of program u < bound → priority_of program u ≤ priority_of program t.0)
