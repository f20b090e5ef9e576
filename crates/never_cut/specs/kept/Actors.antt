-- What the kernel may do to the words that others read, and what the others may do to what the kernel knows.
use Rattle.std.specs.Prelude.{◌≡◌, ℕ, ◌+◌, ◌%◌, ◌<◌, ◌≤◌, ◌^◌, List, [], ◌++◌, length}
use Rattle.ink_base.specs.declared.event.Event.{Event}
use Rattle.ink_base.specs.declared.entry.Entry.{Entry}
use Rattle.ink_base.specs.declared.entry.Entry.TheVariants.{Push, Refuse, Skip, Tick}
use Rattle.task_isa.specs.declared.program.Program.{Program}
use Rattle.fram_words.specs.Places.{Place, Code, Commit, Page, Log, Ring, Tail, Slot, Ack, Clock, Src, Memory, Access, Load, Store}
use Rattle.push_core.specs.Slots.{empty_word}
use Rattle.push_core.specs.Queue as queues
use Rattle.push_core.specs.Queue.{published, StandsQueue}
use Rattle.prog_check.specs.Lookup.{thread_def}
use Rattle.never_cut.specs.declared.model.Model.{Model}
use Rattle.never_cut.specs.declared.thread_model.ThreadModel.{ThreadModel}
use Rattle.never_cut.specs.State.{thread_of, queue_of}
use Rattle.never_cut.specs.Stands.{slots_of}

-- the words that the kernel alone writes
abbrev pub IsPrivate : Place → Type 0
IsPrivate (Code x n) = Unit {0}
IsPrivate (Commit t) = Unit {0}
IsPrivate (Page t p c k) = Unit {0}
IsPrivate (Log t n) = Unit {0}
IsPrivate (Ring q n) = Unit {0}
IsPrivate (Ack i) = Unit {0}
IsPrivate (Tail t) = ⊥
IsPrivate (Slot t n) = ⊥
IsPrivate Clock = ⊥
IsPrivate (Src i) = ⊥

-- those words are as they were
abbrev pub SamePrivate : Memory → Memory → Type 0
SamePrivate old new = (p : Place) → IsPrivate p → new p ≡ old p

-- the entries of the sources and the clock
abbrev pub IsOther : Entry → Type 0
IsOther (Push i) = Unit {0}
IsOther (Refuse i) = Unit {0}
IsOther (Skip i) = Unit {0}
IsOther (Tick by) = Unit {0}
IsOther _ = ⊥

-- a thread without its queue's events
abbrev pub without_held : ThreadModel → ThreadModel
without_held x = record x { held = [] }

-- the next state differs at most in events that were added to queues, in the sources and in a later clock
pub record Follows (m next : Model) : Type 0 where
  pub threads : (t : ℕ) → without_held (thread_of next t) ≡ without_held (thread_of m t)
  pub more : ℕ → List Event
  pub held : (t : ℕ) → (thread_of next t).held ≡ (thread_of m t).held ++ more t
  pub count : length next.threads ≡ length m.threads
  pub pipes : next.pipes ≡ m.pipes
  pub timers : next.timers ≡ m.timers
  pub outputs : next.outputs ≡ m.outputs
  pub commits : next.commits ≡ m.commits
  pub scan : next.scan ≡ m.scan
  pub clock : m.clock ≤ next.clock

-- what the kernel reads of the shared words: queues and clock stand for the state, and positions fit their bits
pub record StandsForKernel (words : Memory) (program : Program) (m : Model) : Type 0 where
  pub queues : (t : ℕ) → t < length program.threads → StandsQueue (thread_def program t).queue (slots_of words t) (words (Tail t)) (queue_of (thread_of m t))
  pub small : (t : ℕ) → t < length program.threads → published (queue_of (thread_of m t)) < 2 ^ 20
  pub clock : words Clock ≡ m.clock

-- the event is the first of the thread's queue
abbrev pub IsFirstHeld : Model → ℕ → Event → Type 0
IsFirstHeld m t e = queues.IsFirst e (queue_of (thread_of m t))

-- a finished event of source i with this count is the first of the thread's queue
abbrev pub IsFinishing : Model → (t i count : ℕ) → Type 0
IsFinishing m t i count = queues.IsFinishing i count (queue_of (thread_of m t))

-- In shared words the kernel stores an acknowledgement of the first event of a queue, once that is finished,
-- and after it the empty slot of that event.
abbrev pub IsAllowedStore : Program → Memory → Model → Place → ℕ → Type 0
IsAllowedStore program words m (Ack i) v =
    (t : ℕ) × (t < length program.threads) × (count : ℕ) × IsFinishing m t i count × (v ≡ (count + 1) % 64)
IsAllowedStore program words m (Slot t n) v =
    (t < length program.threads) × (i : ℕ) × (count : ℕ) × IsFinishing m t i count × (words (Ack i) ≡ (count + 1) % 64)
    × (n ≡ (thread_of m t).released % (thread_def program t).queue) × (v ≡ empty_word ((thread_of m t).released + (thread_def program t).queue))
IsAllowedStore program words m (Tail t) v = ⊥
IsAllowedStore program words m Clock v = ⊥
IsAllowedStore program words m (Src i) v = ⊥
IsAllowedStore program words m _ v = Unit {0}

-- the accesses that sources and clock leave to the kernel
abbrev pub IsAllowed : Program → Memory → Model → Access → Type 0
IsAllowed program words m (Load p) = Unit {0}
IsAllowed program words m (Store p v) = IsAllowedStore program words m p v
IsAllowed program words m _ = ⊥
