-- When the words of a board stand for a state.
use Rattle.std.specs.Prelude.{◌≡◌, ◌⊎◌, ℕ, ◌+◌, ◌%◌, ◌^◌, ◌<◌, ◌≤◌, ◌==◌, ◌&&◌, nat_lt, Bool, if◌then◌else◌, List, ◌∷◌, length, map, slice_index, All, Option}
use Rattle.std.specs.Option.{ForSome}
use Rattle.ink_base.specs.declared.ids.TaskId.{TaskId}
use Rattle.ink_base.specs.declared.output.Output.{Output}
use Rattle.task_isa.specs.declared.program.Program.{Program}
use Rattle.task_isa.specs.Code.{word_of_instr}
use Rattle.fram_words.specs.Places.{Memory, Code, Commit, Log, Ring, Tail, Slot, Ack, Clock, Src}
use Rattle.fram_words.specs.Header as header
pub use Rattle.fram_words.specs.Held.{next_word, origin_word, due_word, output_word}
use Rattle.thread_state.specs.Pages.{committed}
use Rattle.push_core.specs.Queue.{StandsQueue, StandsSource}
use Rattle.prog_check.specs.Lookup.{thread_def, pipe_def, timer_def, task_def, instr_at, source_thread}
use Rattle.ink_layout.specs.Shape.{pages_of}
use Rattle.never_cut.specs.declared.model.Model.{Model}
use Rattle.never_cut.specs.State.{thread_of, pipe_of, timer_of, source_of, queue_of, source_in}
use Rattle.never_cut.specs.Commit.{outputs_of}

-- one where it holds, else none
abbrev pub flag : Bool → ℕ
flag b = if b then 1 else 0

-- the thread writes the pipe
abbrev pub writes_pipe : Program → (t q : ℕ) → Bool
writes_pipe program t q = nat_lt q (length program.pipes) && ((pipe_def program q).writer.0 == t)

-- the thread reads the pipe
abbrev pub reads_pipe : Program → (t q : ℕ) → Bool
reads_pipe program t q = nat_lt q (length program.pipes) && ((pipe_def program q).reader.0 == t)

-- the timer is the thread's own
abbrev pub owns_timer : Program → (t j : ℕ) → Bool
owns_timer program t j = nat_lt j (length program.timers) && ((timer_def program j).thread.0 == t)

-- the items that were sent to a pipe, in the block of its writer
abbrev pub written_word : Program → Model → ℕ → ℕ → ℕ
written_word program m t q = if writes_pipe program t q then (pipe_of m q).taken + length (pipe_of m q).items else 0

-- the items that were taken from it, in the block of its reader
abbrev pub taken_word : Program → Model → ℕ → ℕ → ℕ
taken_word program m t q = if reads_pipe program t q then (pipe_of m q).taken else 0

-- a timer's word in the block of its thread
abbrev pub timer_word : Program → Model → ℕ → ℕ → ℕ
timer_word program m t j = if owns_timer program t j then due_word (timer_of m j).due else 0

-- its period in the same block
abbrev pub period_word : Program → Model → ℕ → ℕ → ℕ
period_word program m t j = if owns_timer program t j then (timer_of m j).period else 0

-- what a thread's own words say of it: nothing that another thread or a source changes
pub record Saved : Type 0 where
  pub state : List ℕ
  pub running : Option TaskId
  pub first : ℕ
  -- the number of its queue's events that were finished
  pub ended : ℕ
  pub served : ℕ
  pub trapped : ℕ
  pub expired : ℕ
  pub outputs : List Output
  pub written : ℕ → ℕ
  pub taken : ℕ → ℕ
  pub due : ℕ → ℕ
  pub period : ℕ → ℕ

-- what the words of a thread say where they stand for a state
abbrev pub saved : Program → Model → ℕ → Saved
saved program m t =
    record {
      state = (thread_of m t).state;
      running = (thread_of m t).running;
      first = (thread_of m t).first;
      ended = (thread_of m t).released + flag (thread_of m t).finished;
      served = (thread_of m t).served;
      trapped = (thread_of m t).trapped;
      expired = (thread_of m t).expired;
      outputs = outputs_of m t;
      written = written_word program m t;
      taken = taken_word program m t;
      due = timer_word program m t;
      period = period_word program m t;
    }

-- the words of a block: the header, and the state behind it. The stamp, and while the thread is idle the origin and the value, are not the state's.
unfoldable pub thread_words : Saved → ℕ → ℕ → ℕ → List ℕ
thread_words y stamp origin value =
    stamp ∷ next_word y.running ∷ y.first ∷ origin ∷ value ∷ y.ended ∷ y.served ∷ y.trapped ∷ y.expired ∷ length y.outputs
    ∷ y.written 0 ∷ y.written 1 ∷ y.written 2 ∷ y.written 3 ∷ y.written 4 ∷ y.written 5 ∷ y.written 6 ∷ y.written 7
    ∷ y.taken 0 ∷ y.taken 1 ∷ y.taken 2 ∷ y.taken 3 ∷ y.taken 4 ∷ y.taken 5 ∷ y.taken 6 ∷ y.taken 7
    ∷ y.due 0 ∷ y.period 0 ∷ y.due 1 ∷ y.period 1 ∷ y.due 2 ∷ y.period 2 ∷ y.due 3 ∷ y.period 3
    ∷ y.due 4 ∷ y.period 4 ∷ y.due 5 ∷ y.period 5 ∷ y.due 6 ∷ y.period 6 ∷ y.due 7 ∷ y.period 7
    ∷ 0 ∷ 0 ∷ 0 ∷ 0 ∷ 0 ∷ 0 ∷ y.state

-- the log of a thread
abbrev pub log_of : Memory → ℕ → ℕ → ℕ
log_of words t n = words (Log t n)

-- the outputs stand in a log, in order
abbrev pub AreLogged : (ℕ → ℕ) → List Output → Type 0
AreLogged log outputs = (n : ℕ) → n < length outputs → log n ≡ slice_index (map output_word outputs) n

-- The committed copy of a thread's block reads as the thread, with its event where a chain runs, and its log holds its outputs, whose stamps the thread has
-- reached. Its commit word names pages that it has.
pub record StandsThread (words : Memory) (program : Program) (m : Model) (t : ℕ) : Type 0 where
  pub stamp : ℕ
  pub origin : ℕ
  pub value : ℕ
  pub block : (w : ℕ) → committed words t w ≡ slice_index (thread_words (saved program m t) stamp origin value) w
  pub event : ForSome (thread_of m t).event (λ e. (origin ≡ origin_word e.origin) × (value ≡ e.value))
  pub log : AreLogged (log_of words t) (outputs_of m t)
  pub reached : All (λ (o : Output). o.stamp ≤ stamp) (outputs_of m t)
  pub pages : words (Commit t) < 2 ^ pages_of (thread_def program t)

-- the items of a pipe stand in its ring
abbrev pub StandsPipe : Memory → Program → Model → ℕ → Type 0
StandsPipe words program m q =
    (k : ℕ) → k < length (pipe_of m q).items → words (Ring q (((pipe_of m q).taken + k) % (pipe_def program q).places)) ≡ slice_index (pipe_of m q).items k

-- the private words: code, blocks, logs and rings; the newest stamp is the number of commits
pub record StandsPrivate (words : Memory) (program : Program) (m : Model) : Type 0 where
  pub code : (x n : ℕ) → x < length program.tasks → n < length (task_def program x).code → words (Code x n) ≡ word_of_instr (instr_at (task_def program x) n)
  pub threads : (t : ℕ) → t < length program.threads → StandsThread words program m t
  pub stamps : (t : ℕ) → t < length program.threads → committed words t header.stamp ≤ m.commits
  pub newest : (m.commits ≡ 0) ⊎ ((t : ℕ) × (t < length program.threads) × (committed words t header.stamp ≡ m.commits))
  pub pipes : (q : ℕ) → q < length program.pipes → StandsPipe words program m q

-- the slots of a thread's queue
abbrev pub slots_of : Memory → ℕ → ℕ → ℕ
slots_of words t n = words (Slot t n)

-- the shared words: queues, clock and sources
pub record StandsShared (words : Memory) (program : Program) (m : Model) : Type 0 where
  pub queues : (t : ℕ) → t < length program.threads → StandsQueue (thread_def program t).queue (slots_of words t) (words (Tail t)) (queue_of (thread_of m t))
  pub clock : words Clock ≡ m.clock
  pub sources : (i : ℕ) → i < length program.sources → StandsSource i (words (Src i)) (words (Ack i)) (thread_of m (source_thread program i)).held (source_in (source_of m i))

-- the words of a board stand for a state
pub record Stands (words : Memory) (program : Program) (m : Model) : Type 0 where
  pub private : StandsPrivate words program m
  pub shared : StandsShared words program m
