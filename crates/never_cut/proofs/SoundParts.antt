-- A sound state, by the parts that its entries change.
use Rattle.never_cut.proofs.Common.{◌≡◌, ℕ, ◌+◌, ◌%◌, ◌^◌, ◌<◌, ◌≤◌, true, false, List, length, get_or, Some, None, slice_index, All, ForSome, Event, Output, Program, thread_def, pipe_def, timer_def, task_def, greatest_tail, Model, ThreadModel, PipeModel, TimerModel, thread_of, queue_of, no_pipe, no_timer, outputs_of, Readings, IsCalm, published, event_at, AtMostOneFinished, IsSound, IsSoundThread, IsSoundSource, IsQueued, HasStamps, unsettled_into}
use Rattle.ink_base.specs.declared.event.Origin.TheVariants as origins
use Rattle.never_cut.proofs.Values.{HaveBits}

-- how many items were taken from each pipe
abbrev pub taken_in : List PipeModel → ℕ → ℕ
taken_in pipes q = (get_or pipes q no_pipe).taken

-- the event that a chain of thread t serves, where its queue holds these events, and so many items of each pipe were taken
abbrev pub IsServedBy : Program → (taken : ℕ → ℕ) → (t : ℕ) → (held : List Event) → Event → Type 0
IsServedBy program taken t held e = elim e.origin [
  | origins.Source source count ↦ (0 < length held) × (event_at held 0 ≡ e)
  | origins.Pipe pipe item ↦ (pipe.0 < length program.pipes) × ((pipe_def program pipe.0).reader.0 ≡ t) × (item + 1 ≡ taken pipe.0) × (e.value < 2 ^ 32)
  | origins.Timer timer deadline ↦ (timer.0 < length program.timers) × ((timer_def program timer.0).thread.0 ≡ t) × (deadline < 2 ^ 48) × (e.value ≡ deadline % 2 ^ 32)
]

pub record IsChainAt (program : Program) (taken : ℕ → ℕ) (t : ℕ) (x : ThreadModel) (task : ℕ) : Type 0 where
  pub known : task < length program.tasks
  pub own : (task_def program task).thread.0 ≡ t
  pub event : Event
  pub is : x.event ≡ Some event
  pub served : IsServedBy program taken t x.held event
  pub unfinished : x.finished ≡ false

-- a thread, with so many items taken from the pipes, so many readings left to its sources, so many outputs, and at this clock
pub record IsSoundAt (program : Program) (taken : ℕ → ℕ) (t : ℕ) (x : ThreadModel) (left outs clock : ℕ) : Type 0 where
  pub positions : published (queue_of x) + left ≤ greatest_tail
  pub queued : (k : ℕ) → k < length x.held → IsQueued program t (event_at x.held k)
  pub finished : x.finished ≡ true → (0 < length x.held) × (x.running ≡ None)
  pub idle : x.running ≡ None → x.event ≡ None
  pub chain : ForSome x.running (λ task. IsChainAt program taken t x task.0)
  pub outputs : outs ≤ (thread_def program t).log
  pub first : x.first ≤ clock
  pub size : length x.state ≡ (thread_def program t).state
  pub values : HaveBits x.state

abbrev pub ThreadSound : Program → Readings → Model → ℕ → Type 0
ThreadSound program readings m t =
    IsSoundAt program (taken_in m.pipes) t (thread_of m t) (unsettled_into program readings m t (length program.sources)) (length (outputs_of m t)) m.clock

-- a pipe of so many places
pub record IsSoundPipeAt (places : ℕ) (p : PipeModel) : Type 0 where
  pub room : length p.items ≤ places
  pub values : (k : ℕ) → slice_index p.items k < 2 ^ 32

abbrev pub PipesSound : Program → List PipeModel → Type 0
PipesSound program pipes = (q : ℕ) → q < length program.pipes → IsSoundPipeAt (pipe_def program q).places (get_or pipes q no_pipe)

pub record IsSoundTimerAt (x : TimerModel) : Type 0 where
  pub due : ForSome x.due (λ due. due < 2 ^ 48)
  pub period : x.period < 2 ^ 32

abbrev pub TimersSound : Program → List TimerModel → Type 0
TimersSound program timers = (j : ℕ) → j < length program.timers → IsSoundTimerAt (get_or timers j no_timer)

pub record HasSoundParts (program : Program) (readings : Readings) (m : Model) : Type 0 where
  pub threads_count : length m.threads ≡ length program.threads
  pub pipes_count : length m.pipes ≡ length program.pipes
  pub timers_count : length m.timers ≡ length program.timers
  pub sources_count : length m.sources ≡ length program.sources
  pub threads : (t : ℕ) → t < length program.threads → ThreadSound program readings m t
  pub pipes : PipesSound program m.pipes
  pub timers : TimersSound program m.timers
  pub sources : (i : ℕ) → i < length program.sources → IsSoundSource readings m i
  pub clock : m.clock < 2 ^ 47
  pub scan : ForSome m.scan (λ scan. scan.time ≤ m.clock)
  pub begun : ForSome m.scan (λ scan. (t : ℕ) → (thread_of m t).first ≤ scan.time)
  pub calm : ForSome m.scan (λ scan. IsCalm program m)
  pub stamps : HasStamps m.commits m.outputs
  pub words : All (λ (o : Output). o.value < 2 ^ 32) m.outputs

thread_parts : (program : Program) (readings : Readings) (m : Model) (t : ℕ) → length (thread_of m t).state ≡ (thread_def program t).state → IsSoundThread program readings m t →
    ThreadSound program readings m t
thread_parts program readings m t size x =
    record {
      positions = x.positions;
      queued = x.queued;
      finished = x.finished;
      idle = x.idle;
      chain = λ task is.
          let c = x.chain task is in
          record { known = c.known; own = c.own; event = c.event; is = c.is; served = c.served; unfinished = c.unfinished };
      outputs = x.outputs;
      first = x.first;
      size = size;
      values = x.values;
    }

pub parts_of : (program : Program) (readings : Readings) (m : Model) → IsSound program readings m → HasSoundParts program readings m
parts_of program readings m h =
    record {
      threads_count = h.shape.threads;
      pipes_count = h.shape.pipes;
      timers_count = h.shape.timers;
      sources_count = h.shape.sources;
      threads = λ t lt. thread_parts program readings m t (h.shape.states t lt) (h.threads t lt);
      pipes = λ q lt. let p = h.pipes q lt in record { room = p.room; values = p.values };
      timers = λ j lt. let x = h.timers j lt in record { due = x.due; period = x.period };
      sources = h.sources;
      clock = h.clock;
      scan = h.scan;
      begun = h.begun;
      calm = h.calm;
      stamps = h.stamps;
      words = h.values;
    }

thread_back : (program : Program) (readings : Readings) (m : Model) (t : ℕ) → ThreadSound program readings m t → IsSoundThread program readings m t
thread_back program readings m t x =
    record {
      positions = x.positions;
      queued = x.queued;
      finished = x.finished;
      idle = x.idle;
      chain = λ task is.
          let c = x.chain task is in
          record { known = c.known; own = c.own; event = c.event; is = c.is; served = c.served; unfinished = c.unfinished };
      outputs = x.outputs;
      first = x.first;
      values = x.values;
    }

pub sound_of : (program : Program) (readings : Readings) (m : Model) → HasSoundParts program readings m → AtMostOneFinished program m → IsSound program readings m
sound_of program readings m h one =
    record {
      shape = record { threads = h.threads_count; pipes = h.pipes_count; timers = h.timers_count; sources = h.sources_count; states = λ t lt. (h.threads t lt).size };
      threads = λ t lt. thread_back program readings m t (h.threads t lt);
      pipes = λ q lt. let p = h.pipes q lt in record { room = p.room; values = p.values };
      timers = λ j lt. let x = h.timers j lt in record { due = x.due; period = x.period };
      sources = h.sources;
      clock = h.clock;
      scan = h.scan;
      begun = h.begun;
      calm = h.calm;
      one = one;
      stamps = h.stamps;
      values = h.words;
    }
