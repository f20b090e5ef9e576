-- The words of queues and sources, where each source is in its table, and when the words stand for the never-cut kernel.
use Rattle.std.specs.Prelude.{ℕ, ◌+◌, ◌^◌, ◌<◌, ◌≤◌, length, slice_index}
use Rattle.ink_base.specs.declared.limits.TheConstants as limits
use Rattle.fram_words.specs.Places.{Place, Tail, Ack, Src}
use Rattle.fram_words.specs.Places as places
use Rattle.push_core.specs.Queue.{Queue, Source, published, event_at, IsQueued, unsettled_into, StandsQueue, StandsSource}
use Rattle.source_laws.specs.Model.{places_for, Board, Near, Model}
use Rattle.push_core.specs.Table.{greatest_tail}
use Rattle.push_core.specs.declared.row.Row.{Row}

-- sources, their readings and the places of queues are within their limits, a reading has 32 bits, and a source's queue has a place
pub record IsWithin (board : Board) : Type 0 where
  pub sources : board.shape.sources ≤ limits.SOURCES
  pub readings : (i : ℕ) → length (board.readings i) ≤ limits.READINGS
  pub values : (i k : ℕ) → slice_index (board.readings i) k < 2 ^ 32
  pub places : (i : ℕ) → i < board.shape.sources → 0 < places_for board i
  pub no_more : (t : ℕ) → board.places t ≤ limits.QUEUE_PLACES

-- the words, what they stand for, and where each source is in its table
pub record State : Type 0 where
  pub word : Place → ℕ
  pub model : Model
  pub row : ℕ → Row

-- the words of a queue's slots
abbrev pub slots_of : State → ℕ → ℕ → ℕ
slots_of x t n = x.word (places.Slot t n)

-- the part of one queue
abbrev pub QueueKept : Board → State → ℕ → Type 0
QueueKept board x t = StandsQueue (board.places t) (slots_of x t) (x.word (Tail t)) (x.model.queue t)

-- its events are those of its sources, and each that it has, or may yet get, has a position
pub record EventsKept (board : Board) (queue : ℕ → Queue) (source : ℕ → Source) (t : ℕ) : Type 0 where
  pub events : (k : ℕ) → k < length (queue t).held → IsQueued board.shape.sources board.queue_of t (event_at (queue t).held k)
  pub positions : published (queue t) + unsettled_into board.queue_of board.readings source t board.shape.sources ≤ greatest_tail

-- readings are settled in order
pub record IsOrdered (readings : ℕ) (s : Source) : Type 0 where
  pub accepted : s.accepted ≤ s.next
  pub next : s.next ≤ readings

-- what source i can see
abbrev pub near : Board → State → ℕ → Near
near board x i = record { tail = x.word (Tail (board.queue_of i)); src = x.word (Src i); ack = x.word (Ack i); queue = x.model.queue (board.queue_of i); source = x.model.source i }

-- the words of queues and sources stand for those of the never-cut kernel
pub record Stands (board : Board) (x : State) : Type 0 where
  pub queues : (t : ℕ) → QueueKept board x t
  pub sources : (i : ℕ) → i < board.shape.sources → StandsSource i (x.word (Src i)) (x.word (Ack i)) (x.model.queue (board.queue_of i)).held (x.model.source i)
