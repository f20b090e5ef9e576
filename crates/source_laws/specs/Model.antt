-- The queues and sources of the kernel that is never cut, and the steps that it may make.
use Rattle.std.specs.Prelude.{◌≡◌, ℕ, ◌<◌, false, List, length}
use Rattle.fram_words.specs.Changes.{Becomes}
use Rattle.fram_words.specs.Shape.{Shape}
use Rattle.push_core.specs.Queue.{Queue, Source, next_event, HasReading, HasPlace, IsFull, IsRefused, IsFinished, with_event, with_finished, without_first, with_accepted, with_refused, with_skipped}

-- what never changes: the shape of the memory, the places of each queue, and each source's queue and readings
pub record Board : Type 0 where
  pub shape : Shape
  -- none where there is no such queue
  pub places : ℕ → ℕ
  pub queue_of : ℕ → ℕ
  pub readings : ℕ → List ℕ

-- the places of a source's queue
abbrev pub places_for : Board → ℕ → ℕ
places_for board i = board.places (board.queue_of i)

-- what a source can see of the board: its queue's TAIL, its SRC and ACK, its queue, and itself
pub record Near : Type 0 where
  pub tail : ℕ
  pub src : ℕ
  pub ack : ℕ
  pub queue : Queue
  pub source : Source

-- every queue and every source
pub record Model : Type 0 where
  pub queue : ℕ → Queue
  pub source : ℕ → Source

-- what a journal tells of queues and sources
pub data Entry : Type 0 where
  Push : (source : ℕ) → Entry
  Refuse : (source : ℕ) → Entry
  Skip : (source : ℕ) → Entry
  Finish : (queue : ℕ) → Entry
  Release : (queue : ℕ) → Entry

-- the queue that a source feeds
abbrev pub fed_by : Board → Model → ℕ → Queue
fed_by board m i = m.queue (board.queue_of i)

-- the entry may be made now
abbrev pub IsLegal : Board → Model → Entry → Type 0
IsLegal board m (Push i) = HasReading (board.readings i) (m.source i) × HasPlace (places_for board i) (fed_by board m i)
IsLegal board m (Refuse i) = HasReading (board.readings i) (m.source i) × IsFull (places_for board i) (fed_by board m i)
IsLegal board m (Skip i) = IsRefused (m.source i)
IsLegal board m (Finish t) = ((m.queue t).finished ≡ false) × (0 < length (m.queue t).held)
IsLegal board m (Release t) = IsFinished (m.queue t)

-- only one source changes
pub record SourceBecomes (i : ℕ) (s : Source) (old new : Model) : Type 0 where
  pub queue : new.queue ≡ old.queue
  pub source : Becomes i s old.source new.source

-- only one queue changes
pub record QueueBecomes (t : ℕ) (q : Queue) (old new : Model) : Type 0 where
  pub queue : Becomes t q old.queue new.queue
  pub source : new.source ≡ old.source

-- only one queue and one source change
pub record BothBecome (t : ℕ) (q : Queue) (i : ℕ) (s : Source) (old new : Model) : Type 0 where
  pub queue : Becomes t q old.queue new.queue
  pub source : Becomes i s old.source new.source

-- new is old after the entry
abbrev pub Follows : Board → Entry → Model → Model → Type 0
Follows board (Push i) old new =
    BothBecome (board.queue_of i) (with_event (fed_by board old i) (next_event i (board.readings i) (old.source i))) i (with_accepted (old.source i)) old new
Follows board (Refuse i) old new = SourceBecomes i (with_refused (old.source i)) old new
Follows board (Skip i) old new = SourceBecomes i (with_skipped (old.source i)) old new
Follows board (Finish t) old new = QueueBecomes t (with_finished (old.queue t)) old new
Follows board (Release t) old new = QueueBecomes t (without_first (old.queue t)) old new
