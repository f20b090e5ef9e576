-- The parts of a state by their numbers, and the state at the start.
use Rattle.std.specs.Prelude.{ℕ, ◌==◌, Bool, true, false, if◌then◌else◌, List, [], map, drop, replicate, slice_index_or, slice_set, Some, None}
use Rattle.std.specs.List.{list_any}
use Rattle.ink_base.specs.declared.ids.ThreadId.{ThreadId}
use Rattle.ink_base.specs.declared.event.Event.{Event}
use Rattle.task_isa.specs.declared.program.Program.{Program}
use Rattle.task_isa.specs.declared.program.ThreadDef.{ThreadDef}
use Rattle.task_isa.specs.declared.program.PipeDef.{PipeDef}
use Rattle.task_isa.specs.declared.program.TimerDef.{TimerDef}
use Rattle.push_core.specs.Queue.{Queue, Source}
use Rattle.never_cut.specs.declared.model.Model.{Model}
use Rattle.never_cut.specs.declared.thread_model.ThreadModel.{ThreadModel}
use Rattle.never_cut.specs.declared.pipe_model.PipeModel.{PipeModel}
use Rattle.never_cut.specs.declared.timer_model.TimerModel.{TimerModel}
use Rattle.never_cut.specs.declared.source_model.SourceModel.{SourceModel}

-- what stands for a part that isn't there
abbrev pub no_thread : ThreadModel
no_thread =
    record {
      state = [];
      running = None;
      event = None;
      first = 0;
      held = [];
      finished = false;
      released = 0;
      served = 0;
      trapped = 0;
      expired = 0;
    }

-- an empty pipe, of which nothing was taken
abbrev pub no_pipe : PipeModel
no_pipe = record { items = []; taken = 0 }

-- a timer that is off
abbrev pub no_timer : TimerModel
no_timer = record { due = None; period = 0 }

-- a source that has settled nothing
abbrev pub no_source : SourceModel
no_source = record { next = 0; accepted = 0; refused = false }

-- a thread of a state by its number
abbrev pub thread_of : Model → ℕ → ThreadModel
thread_of m t = slice_index_or m.threads t no_thread

-- a pipe of a state
abbrev pub pipe_of : Model → ℕ → PipeModel
pipe_of m q = slice_index_or m.pipes q no_pipe

-- a timer of a state
abbrev pub timer_of : Model → ℕ → TimerModel
timer_of m j = slice_index_or m.timers j no_timer

-- a source of a state
abbrev pub source_of : Model → ℕ → SourceModel
source_of m i = slice_index_or m.sources i no_source

-- the queue of a thread
abbrev pub queue_of : ThreadModel → Queue
queue_of x = record { held = x.held; finished = x.finished; released = x.released }

-- a thread with this queue
abbrev pub with_queue : Queue → ThreadModel → ThreadModel
with_queue q x = record x { held = q.held; finished = q.finished; released = q.released }

-- what a source has accepted and settled
abbrev pub source_in : SourceModel → Source
source_in s = record { next = s.next; accepted = s.accepted; refused = s.refused }

-- a source that has accepted and settled this
abbrev pub source_model : Source → SourceModel
source_model s = record { next = s.next; accepted = s.accepted; refused = s.refused }

-- the state with one thread or source in another's place
abbrev pub with_thread : Model → ℕ → ThreadModel → Model
with_thread m t x = record m { threads = slice_set m.threads t x }

-- the state with one source in another's place
abbrev pub with_source : Model → ℕ → SourceModel → Model
with_source m i s = record m { sources = slice_set m.sources i s }

-- a number is among the threads
abbrev pub is_looked : List ThreadId → ℕ → Bool
is_looked looked t = list_any (λ (u : ThreadId). u.0 == t) looked

-- the events of the queue that aren't finished
abbrev pub unfinished : ThreadModel → List Event
unfinished x = if x.finished then drop 1 x.held else x.held

-- a chain runs
abbrev pub is_running : ThreadModel → Bool
is_running x = elim x.running [ Some task ↦ true | None ↦ false ]

-- a thread before anything has happened: zeros for its state
abbrev pub open_thread : ThreadDef → ThreadModel
open_thread d = record no_thread { state = replicate d.state 0 }

-- a pipe then
abbrev pub open_pipe : PipeDef → PipeModel
open_pipe d = no_pipe

-- a timer then, as it is declared
abbrev pub open_timer : TimerDef → TimerModel
open_timer d = record { due = d.due; period = d.period }

-- a source then
abbrev pub open_source : ThreadId → SourceModel
open_source d = no_source

-- the state at the start of a program
abbrev pub open_model : Program → Model
open_model program =
    record {
      threads = map open_thread program.threads;
      pipes = map open_pipe program.pipes;
      timers = map open_timer program.timers;
      sources = map open_source program.sources;
      clock = 0;
      outputs = [];
      commits = 0;
      scan = None;
    }
