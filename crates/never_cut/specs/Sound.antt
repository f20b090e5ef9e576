-- What holds of every state that a legal journal reaches, from the first image or from another state of which it holds.
use Rattle.std.specs.Prelude.{◌≡◌, ℕ, ◌+◌, ◌%◌, ◌^◌, ◌<◌, ◌≤◌, true, false, List, length, slice_index, All, Some, None}
use Rattle.std.specs.List.Sorted.{IsNonDecreasingBy}
use Rattle.std.specs.Option.{ForSome}
use Rattle.ink_base.specs.declared.event.Event.{Event}
use Rattle.ink_base.specs.declared.event.Origin.TheVariants as origins
use Rattle.ink_base.specs.declared.output.Output.{Output}
use Rattle.task_isa.specs.declared.program.Program.{Program}
use Rattle.push_core.specs.Table.{greatest_tail}
use Rattle.push_core.specs.Queue as queues
use Rattle.push_core.specs.Queue.{Source, published, event_at}
use Rattle.prog_check.specs.Lookup.{thread_def, pipe_def, timer_def, task_def, source_thread}
use Rattle.never_cut.specs.declared.model.Model.{Model}
use Rattle.never_cut.specs.State.{thread_of, pipe_of, timer_of, source_of, queue_of, source_in}
use Rattle.never_cut.specs.Commit.{outputs_of}
use Rattle.never_cut.specs.Entries.{Readings, readings_of, IsCalm}
use Rattle.never_cut.specs.Finished.{AtMostOneFinished}

-- as many of each part as the program declares
pub record HasShape (program : Program) (m : Model) : Type 0 where
  pub threads : length m.threads ≡ length program.threads
  pub pipes : length m.pipes ≡ length program.pipes
  pub timers : length m.timers ≡ length program.timers
  pub sources : length m.sources ≡ length program.sources
  pub states : (t : ℕ) → t < length program.threads → length (thread_of m t).state ≡ (thread_def program t).state

-- the sources of a state
abbrev pub sources_in : Model → ℕ → Source
sources_in m i = source_in (source_of m i)

-- how many readings the first so many sources of a thread haven't settled
abbrev pub unsettled_into : Program → Readings → Model → ℕ → ℕ → ℕ
unsettled_into program readings m t n = queues.unsettled_into (source_thread program) (readings_of readings) (sources_in m) t n

-- an event of a source of this thread's queue, within its bits
abbrev pub IsQueued : Program → ℕ → Event → Type 0
IsQueued program t e = queues.IsQueued (length program.sources) (source_thread program) t e

-- the event of a running chain: the first held one, unfinished; the item that was taken last from a pipe that the thread reads; or of a timer of its own
abbrev pub IsServed : Program → Model → ℕ → Event → Type 0
IsServed program m t e = elim e.origin [
  | origins.Source source count ↦ (0 < length (thread_of m t).held) × (event_at (thread_of m t).held 0 ≡ e)
  | origins.Pipe pipe item ↦ (pipe.0 < length program.pipes) × ((pipe_def program pipe.0).reader.0 ≡ t) × (item + 1 ≡ (pipe_of m pipe.0).taken) × (e.value < 2 ^ 32)
  | origins.Timer timer deadline ↦ (timer.0 < length program.timers) × ((timer_def program timer.0).thread.0 ≡ t) × (deadline < 2 ^ 48) × (e.value ≡ deadline % 2 ^ 32)
]

-- a running chain goes on with a task of its thread, serves its event, and has nothing finished
pub record IsChain (program : Program) (m : Model) (t task : ℕ) : Type 0 where
  pub known : task < length program.tasks
  pub own : (task_def program task).thread.0 ≡ t
  pub event : Event
  pub is : (thread_of m t).event ≡ Some event
  pub served : IsServed program m t event
  pub unfinished : (thread_of m t).finished ≡ false

-- a thread's queue has the events of its own sources, and it serves one event at a time
pub record IsSoundThread (program : Program) (readings : Readings) (m : Model) (t : ℕ) : Type 0 where
  -- each event that its queue has had, or may yet get, has a position
  pub positions : published (queue_of (thread_of m t)) + unsettled_into program readings m t (length program.sources) ≤ greatest_tail
  pub queued : (k : ℕ) → k < length (thread_of m t).held → IsQueued program t (event_at (thread_of m t).held k)
  pub finished : (thread_of m t).finished ≡ true → (0 < length (thread_of m t).held) × ((thread_of m t).running ≡ None)
  pub idle : (thread_of m t).running ≡ None → (thread_of m t).event ≡ None
  pub chain : ForSome (thread_of m t).running (λ task. IsChain program m t task.0)
  pub outputs : length (outputs_of m t) ≤ (thread_def program t).log
  pub first : (thread_of m t).first ≤ m.clock
  -- the numbers of its state have 32 bits
  pub values : (k : ℕ) → slice_index (thread_of m t).state k < 2 ^ 32

-- a pipe holds no more items than it has places
pub record IsSoundPipe (program : Program) (m : Model) (q : ℕ) : Type 0 where
  pub room : length (pipe_of m q).items ≤ (pipe_def program q).places
  pub values : (k : ℕ) → slice_index (pipe_of m q).items k < 2 ^ 32

-- a timer's tick and period fit their words
pub record IsSoundTimer (m : Model) (j : ℕ) : Type 0 where
  pub due : ForSome (timer_of m j).due (λ due. due < 2 ^ 48)
  pub period : (timer_of m j).period < 2 ^ 32

-- accepted readings are settled, and settled ones are there; a refused one is there
pub record IsSoundSource (readings : Readings) (m : Model) (i : ℕ) : Type 0 where
  pub ordered : (source_of m i).accepted ≤ (source_of m i).next
  pub within : (source_of m i).next ≤ length (readings_of readings i)
  pub refused : (source_of m i).refused ≡ true → (source_of m i).next < length (readings_of readings i)

-- the stamps of outputs are numbers of commits that were made, don't fall along them, and are each of one thread
pub record HasStamps (commits : ℕ) (outputs : List Output) : Type 0 where
  pub made : All (λ (o : Output). (1 ≤ o.stamp) × (o.stamp ≤ commits)) outputs
  pub ordered : IsNonDecreasingBy (λ (o : Output). o.stamp) outputs
  pub own : All (λ (o : Output). All (λ (other : Output). other.stamp ≡ o.stamp → other.thread.0 ≡ o.thread.0) outputs) outputs

-- every part is sound, and a scan goes on as it began
pub record IsSound (program : Program) (readings : Readings) (m : Model) : Type 0 where
  pub shape : HasShape program m
  pub threads : (t : ℕ) → t < length program.threads → IsSoundThread program readings m t
  pub pipes : (q : ℕ) → q < length program.pipes → IsSoundPipe program m q
  pub timers : (j : ℕ) → j < length program.timers → IsSoundTimer m j
  pub sources : (i : ℕ) → i < length program.sources → IsSoundSource readings m i
  pub clock : m.clock < 2 ^ 47
  pub scan : ForSome m.scan (λ scan. scan.time ≤ m.clock)
  -- no chain began behind the scan
  pub begun : ForSome m.scan (λ scan. (t : ℕ) → (thread_of m t).first ≤ scan.time)
  -- a scan begins with nothing finished, and a commit ends it
  pub calm : ForSome m.scan (λ scan. IsCalm program m)
  pub one : AtMostOneFinished program m
  pub stamps : HasStamps m.commits m.outputs
  -- what was put out has 32 bits
  pub values : All (λ (o : Output). o.value < 2 ^ 32) m.outputs
