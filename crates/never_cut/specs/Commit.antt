-- What a commit makes of a state.
use Rattle.std.specs.Prelude.{ℕ, ◌+◌, ◌-◌, ◌==◌, ◌||◌, ◌&&◌, nat_lt, Bool, true, false, if◌then◌else◌, List, [], ◌∷◌, ◌++◌, length, map, drop, slice_set, slice_index_or, Option, Some, None}
use Rattle.std.specs.List.{enumerate_from}
use Rattle.ink_base.specs.declared.ids.TaskId.{TaskId}
use Rattle.ink_base.specs.declared.event.Event.{Event}
use Rattle.ink_base.specs.declared.event.Origin.{Origin}
use Rattle.ink_base.specs.declared.event.Origin.TheVariants as origins
use Rattle.ink_base.specs.declared.output.Output.{Output}
use Rattle.task_isa.specs.declared.program.Program.{Program}
use Rattle.task_isa.specs.declared.program.PipeDef.{PipeDef}
use Rattle.task_isa.specs.declared.outcome.Outcome.{Outcome}
use Rattle.task_isa.specs.declared.outcome.Outcome.TheVariants as outcomes
use Rattle.task_isa.specs.declared.sent.Sent.{Sent}
use Rattle.task_isa.specs.declared.timer_set.TimerSet.{TimerSet}
use Rattle.task_isa.specs.declared.task_start.TaskStart.{TaskStart}
use Rattle.task_isa.specs.declared.task_end.TaskEnd.{TaskEnd}
use Rattle.task_isa.specs.Meaning.{task_of}
use Rattle.prog_check.specs.Lookup.{thread_def, task_def, first_task}
use Rattle.never_cut.specs.declared.model.Model.{Model}
use Rattle.never_cut.specs.declared.thread_model.ThreadModel.{ThreadModel}
use Rattle.never_cut.specs.declared.pipe_model.PipeModel.{PipeModel}
use Rattle.never_cut.specs.declared.timer_model.TimerModel.{TimerModel}
use Rattle.never_cut.specs.State.{thread_of, pipe_of, is_running, no_pipe, no_timer}
use Rattle.never_cut.specs.Pending.{pending}
pub use Rattle.never_cut.specs.Outputs.{outputs_in, stamped}

-- the outputs of a thread, in order
abbrev pub outputs_of : Model → ℕ → List Output
outputs_of m t = outputs_in t m.outputs

-- the places of a pipe that hold no item
abbrev pub room_in : Model → ℕ × PipeDef → ℕ
room_in m (q, d) = d.places - length (pipe_of m q).items

-- so for each pipe
abbrev pub rooms : Program → Model → List ℕ
rooms program m = map (room_in m) (enumerate_from 0 program.pipes)

-- the task that a service goes on with, or begins with
abbrev pub task_at : Program → Model → ℕ → ℕ
task_at program m t = elim (thread_of m t).running [ Some task ↦ task.0 | None ↦ first_task program t ]

-- what the task of thread t begins with
abbrev pub start_at : Program → Model → ℕ → Event → ℕ → TaskStart
start_at program m t e time =
    record {
      state = (thread_of m t).state;
      event = e;
      time = time;
      room = rooms program m;
      log_room = (thread_def program t).log - length (outputs_of m t);
    }

-- the end of the task that the thread goes on with, from this event at this time
abbrev pub end_at : Program → Model → ℕ → Event → ℕ → TaskEnd
end_at program m t e time =
    task_of (task_def program (task_at program m t)).code (task_def program (task_at program m t)).limit (start_at program m t e time)

-- the chain of a thread that has been running for more ticks than it may
abbrev pub is_overdue : Option ℕ → ℕ → ℕ → Bool
is_overdue None first time = false
is_overdue (Some ticks) first time = nat_lt ticks (time - first)

-- a chain of the thread that is overdue
abbrev pub is_expired : Program → Model → ℕ → ℕ → Bool
is_expired program m t time = is_running (thread_of m t) && is_overdue (thread_def program t).expires (thread_of m t).first time

-- where a service begins: its time
abbrev pub with_first : ℕ → ThreadModel → ThreadModel
with_first time x = if is_running x then x else record x { first = time }

-- where a service of an item begins, the item leaves its pipe
abbrev pub taken_from : Origin → List PipeModel → List PipeModel
taken_from (origins.Source source count) pipes = pipes
taken_from (origins.Pipe pipe item) pipes =
    let p = slice_index_or pipes pipe.0 no_pipe in slice_set pipes pipe.0 (record { items = drop 1 p.items; taken = p.taken + 1 })
taken_from (origins.Timer timer deadline) pipes = pipes

-- where a service of a timer begins, it becomes due one period later, or off where it has none
abbrev pub next_due : ℕ → TimerModel → Option ℕ
next_due deadline timer = if timer.period == 0 then None else Some (deadline + timer.period)

-- a timer's event moves its timer on; another leaves all as they are
abbrev pub moved_on : Origin → List TimerModel → List TimerModel
moved_on (origins.Source source count) timers = timers
moved_on (origins.Pipe pipe item) timers = timers
moved_on (origins.Timer timer deadline) timers =
    let x = slice_index_or timers timer.0 no_timer in slice_set timers timer.0 (record x { due = next_due deadline x })

-- the event's consumption, where its service begins
abbrev pub consumed : Bool → Event → Model → Model
consumed running e m = if running then m else record m { pipes = taken_from e.origin m.pipes; timers = moved_on e.origin m.timers }

-- an item that was sent stands behind those of its pipe
abbrev pub with_item : Sent → List PipeModel → List PipeModel
with_item s pipes = let p = slice_index_or pipes s.pipe.0 no_pipe in slice_set pipes s.pipe.0 (record p { items = p.items ++ s.value ∷ [] })

-- what a task sent is in its pipes
abbrev pub with_sends : List Sent → List PipeModel → List PipeModel
with_sends [] pipes = pipes
with_sends (s ∷ sends) pipes = with_sends sends (with_item s pipes)

-- a stopped timer keeps its period
abbrev pub set_by : TimerSet → TimerModel → TimerModel
set_by s x = elim s.due [ None ↦ record x { due = None } | Some due ↦ record { due = Some due; period = s.period } ]

-- the timers as a task set them
abbrev pub with_timers : List TimerSet → List TimerModel → List TimerModel
with_timers [] timers = timers
with_timers (s ∷ settings) timers =
    with_timers settings (slice_set timers s.timer.0 (set_by s (slice_index_or timers s.timer.0 no_timer)))

-- the service is over; a queue's event is finished
abbrev pub is_of_queue : Event → Bool
is_of_queue e = elim e.origin [ origins.Source source count ↦ true | origins.Pipe pipe item ↦ false | origins.Timer timer deadline ↦ false ]

-- the thread is idle, and a queue's event is finished
abbrev pub with_end : Event → ThreadModel → ThreadModel
with_end e x = record x { running = None; event = None; finished = x.finished || is_of_queue e }

-- the chain goes on with this task, and keeps its event
abbrev pub with_next : Event → TaskId → ThreadModel → ThreadModel
with_next e task x = record x { running = Some task; event = Some e }

-- the thread after its task ended, with the task's state
abbrev pub thread_after : Event → Outcome → List ℕ → ThreadModel → ThreadModel
thread_after e (outcomes.Next task) state x = with_next e task (record x { state = state })
thread_after e outcomes.Done state x = with_end e (record x { state = state; served = x.served + 1 })
thread_after e (outcomes.Trap code) state x = with_end e (record x { trapped = x.trapped + 1 })

-- the thread whose chain expired
abbrev pub expired_after : Event → ThreadModel → ThreadModel
expired_after e x = with_end e (record x { expired = x.expired + 1 })

-- the effects of a task's end; a trap has none
abbrev pub ended : ℕ → Event → ℕ → TaskEnd → Model → Model
ended t e time end m =
    record m {
      threads = slice_set m.threads t (thread_after e end.outcome end.state (with_first time (thread_of m t)));
      pipes = with_sends end.sends m.pipes;
      timers = with_timers end.timers m.timers;
      outputs = m.outputs ++ stamped (m.commits + 1) t end.outs;
    }

-- the state with the chain of a thread expired
abbrev pub expired : ℕ → Event → Model → Model
expired t e m = record m { threads = slice_set m.threads t (expired_after e (thread_of m t)) }

-- the commit of a thread with its pending event, at a scan's time
abbrev pub committed : Program → ℕ → Event → ℕ → Model → Model
committed program t e time m =
    let next = if is_expired program m t time then expired t e m else ended t e time (end_at program m t e time) (consumed (is_running (thread_of m t)) e m) in
    record next { commits = m.commits + 1; scan = None }

-- what a commit of the thread makes of the state, at the time of the scan, where there is one and the thread has a pending event
abbrev pub commit : Program → ℕ → Model → Model
commit program t m =
    elim m.scan [
      | None ↦ m
      | Some scan ↦ elim (pending program m t) [ None ↦ m | Some e ↦ committed program t e scan.time m ]
    ]
