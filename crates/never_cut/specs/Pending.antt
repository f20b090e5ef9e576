-- The event that a thread serves next.
use Rattle.std.specs.Prelude.{ℕ, zero, suc, ◌+◌, ◌%◌, ◌^◌, ◌==◌, ◌&&◌, nat_lt, nat_le, Bool, false, if◌then◌else◌, List, [], ◌∷◌, length, slice_index, Option, Some, None}
use Rattle.ink_base.specs.declared.event.Event.{Event}
use Rattle.ink_base.specs.declared.event.Origin.TheVariants as origins
use Rattle.task_isa.specs.declared.program.Program.{Program}
use Rattle.prog_check.specs.Lookup.{pipe_def, timer_def}
use Rattle.never_cut.specs.declared.model.Model.{Model}
use Rattle.never_cut.specs.declared.scan_model.ScanModel.{ScanModel}
use Rattle.never_cut.specs.State.{thread_of, pipe_of, timer_of, is_looked, unfinished}

-- the first of so many numbers, from `at` on, that meets a test
abbrev pub first_number : (ℕ → Bool) → ℕ → ℕ → Option ℕ
first_number test at zero = None
first_number test at (suc count) = if test at then Some at else first_number test (at + 1) count

-- the first event of a list
abbrev pub first_of : List Event → Option Event
first_of [] = None
first_of (e ∷ es) = Some e

-- thread t reads the pipe, and it has an item
abbrev pub has_item : Program → Model → ℕ → ℕ → Bool
has_item program m t q = ((pipe_def program q).reader.0 == t) && nat_lt 0 (length (pipe_of m q).items)

-- the event of its first item
abbrev pub item_event : Model → ℕ → Event
item_event m q = record { origin = origins.Pipe (record { 0 = q }) (pipe_of m q).taken; value = slice_index (pipe_of m q).items 0 }

-- a deadline that has come
abbrev pub is_due_by : Option ℕ → ℕ → Bool
is_due_by None time = false
is_due_by (Some due) time = nat_le due time

-- the timer is one of thread t and due
abbrev pub has_due : Program → Model → ℕ → ℕ → ℕ → Bool
has_due program m t time j = ((timer_def program j).thread.0 == t) && is_due_by (timer_of m j).due time

-- the event of a timer at its deadline
abbrev pub timer_event : ℕ → ℕ → Event
timer_event j due = record { origin = origins.Timer (record { 0 = j }) due; value = due % 2 ^ 32 }

-- that of a timer that is on
abbrev pub due_event : Model → Option ℕ → Option Event
due_event m None = None
due_event m (Some j) = elim (timer_of m j).due [ None ↦ None | Some due ↦ Some (timer_event j due) ]

-- the first item of the lowest pipe that t reads and that has one, else the lowest timer of t that is due
abbrev pub later_event : Program → Model → ℕ → ℕ → Option Event
later_event program m t time =
    elim (first_number (has_item program m t) 0 (length program.pipes)) [
      | Some q ↦ Some (item_event m q)
      | None ↦ due_event m (first_number (has_due program m t time) 0 (length program.timers))
    ]

-- the running chain's event; else, before the scan's look at the queue, its first event that isn't finished; after it a pipe's or a timer's
abbrev pub pending_in : Program → Model → ℕ → ScanModel → Option Event
pending_in program m t scan =
    elim (thread_of m t).running [
      | Some task ↦ (thread_of m t).event
      | None ↦ if is_looked scan.looked t then later_event program m t scan.time else first_of (unfinished (thread_of m t))
    ]

-- the pending event of a thread, where there is a scan
abbrev pub pending : Program → Model → ℕ → Option Event
pending program m t = elim m.scan [ None ↦ None | Some scan ↦ pending_in program m t scan ]
