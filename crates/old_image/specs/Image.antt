-- Words of the earlier form that a run can begin at: the seven checks of an image. Those on code, commit words, pipes and logs are as today's; the others are
-- told of one place after the other, the one that a reader names where the check fails there.
use Rattle.std.specs.Prelude.{◌≡◌, ◌≢◌, ◌⊎◌, ℕ, ◌+◌, ◌*◌, ◌/◌, ◌%◌, ◌^◌, ◌<◌, ◌≤◌, ◌==◌, ◌&&◌, Bool, true, false, length, take}
use Rattle.ink_base.specs.declared.event.Origin.{Origin}
use Rattle.ink_base.specs.declared.event.Origin.TheVariants as origins
use Rattle.task_isa.specs.declared.program.Program.{Program}
use Rattle.fram_words.specs.Places.{Memory, Tail, Slot, Ack}
use Rattle.fram_words.specs.Header as header
use Rattle.fram_words.specs.Held.{origin_word}
use Rattle.thread_state.specs.Pages.{committed}
use Rattle.prog_check.specs.Lookup.{thread_def, task_def, source_thread}
use Rattle.ink_layout.specs.Shape.{pages_of}
use Rattle.never_cut.specs.Stands.{flag}
use Rattle.never_cut.specs.Image.{IsCodeWord, IsCommitWord, IsBlockWord, IsPipeRight, IsLogWord, HasChain, IsChainOrigin}
use Rattle.old_image.specs.Slots.{old_empty_word}
use Rattle.old_image.specs.Told.{old_finished, old_released, old_held, old_published, old_held_for, old_event_at, own_old, old_origin_word}

-- the event that a running chain may have; that of a source has the number of its reading in place of the count
abbrev pub IsOldOrigin : Program → Memory → (t : ℕ) → Origin → Type 0
IsOldOrigin program words t (origins.Source source reading) =
    (source.0 < length program.sources) × (source_thread program source.0 ≡ t) × (reading < 2 ^ 16)
IsOldOrigin program words t o = IsChainOrigin program words t o

-- 3. Blocks. At word w of a thread's committed copy: the origin of a running chain's event is one of the earlier form; every other word is as today.
pub record IsOldBlockWord (program : Program) (words : Memory) (t w : ℕ) : Type 0 where
  pub origin : w ≡ header.origin → HasChain words t → (o : Origin) × (committed words t header.origin ≡ origin_word o) × IsOldOrigin program words t o
  pub others : w ≢ header.origin → IsBlockWord program words t w

-- 6. Queues. At the slot of position r + k, from the position r of the first held event on: behind the held events it has the empty word of its position.
pub record IsOldSlotWord (program : Program) (words : Memory) (t k : ℕ) : Type 0 where
  pub empty : length (old_held program words t) ≤ k →
      words (Slot t ((old_released program words t + k) % (thread_def program t).queue)) ≡ old_empty_word (old_released program words t + k)
  pub fits : length (old_held program words t) ≤ k → old_released program words t + k < 2 ^ 21

-- At TAIL: it is the number of published events, or one behind.
abbrev pub IsOldTailWord : Program → Memory → (t : ℕ) → Type 0
IsOldTailWord program words t = (words (Tail t) ≡ old_published program words t) ⊎ (words (Tail t) + 1 ≡ old_published program words t)

-- At its number of finished events: no earlier thread has a finished event beside this one's.
abbrev pub IsOldOnlyFinished : Program → Memory → (t : ℕ) → Type 0
IsOldOnlyFinished program words t = old_finished program words t ≡ true → (u : ℕ) → u < t → old_finished program words u ≡ false

-- At its next task: a thread with a finished event is idle.
abbrev pub IsOldIdleFinished : Program → Memory → (t : ℕ) → Type 0
IsOldIdleFinished program words t = old_finished program words t ≡ true → committed words t header.next ≡ 0

-- a chain of an event of a source runs: the origin's kind is a source
pub record HasSourceChain (words : Memory) (t : ℕ) : Type 0 where
  pub runs : HasChain words t
  pub of_source : committed words t header.origin / 2 ^ 56 ≡ 1

-- At the origin of its event: a running chain of a source's event has the first held one.
pub record IsOldServed (program : Program) (words : Memory) (t : ℕ) : Type 0 where
  pub held : 0 < length (old_held program words t)
  pub origin : committed words t header.origin ≡ old_origin_word (old_event_at (old_held program words t) 0)
  pub value : committed words t header.value ≡ (old_event_at (old_held program words t) 0).value

-- so it is asked of a thread with such a chain
abbrev pub IsOldFirstServed : Program → Memory → (t : ℕ) → Type 0
IsOldFirstServed program words t = HasSourceChain words t → IsOldServed program words t

-- 7. Sources. At the slot of the j-th held event, where it is of the source: its reading comes after those of the source's held events before it.
abbrev pub IsRisingReading : Program → Memory → (i j : ℕ) → Type 0
IsRisingReading program words i j =
    (old_event_at (old_held_for program words i) j).source.0 ≡ i →
    (k : ℕ) → k < j → (old_event_at (old_held_for program words i) k).source.0 ≡ i →
    (old_event_at (old_held_for program words i) k).reading < (old_event_at (old_held_for program words i) j).reading

-- the j-th event that is held is finished: it is the first of its queue, which is finished
abbrev pub is_old_finished_at : Program → Memory → (t j : ℕ) → Bool
is_old_finished_at program words t j = old_finished program words t && (j == 0)

-- At ACK: it is at most the number of the source's first held reading, or one more where that event is finished. Nothing is asked where none is held.
abbrev pub IsOldAckWord : Program → Memory → (i : ℕ) → Type 0
IsOldAckWord program words i =
    (j : ℕ) → j < length (old_held_for program words i) → (old_event_at (old_held_for program words i) j).source.0 ≡ i →
    own_old i (take j (old_held_for program words i)) ≡ 0 →
    words (Ack i) ≤ (old_event_at (old_held_for program words i) j).reading + flag (is_old_finished_at program words (source_thread program i) j)

-- all that is checked of a thread's queue
pub record IsOldQueueRight (program : Program) (words : Memory) (t : ℕ) : Type 0 where
  pub slots : (k : ℕ) → k < (thread_def program t).queue → IsOldSlotWord program words t k
  pub tail : IsOldTailWord program words t
  pub only : IsOldOnlyFinished program words t
  pub idle : IsOldIdleFinished program words t
  pub served : IsOldFirstServed program words t

-- all that is checked of a source; its SRC has no check of its own
pub record IsOldSourceRight (program : Program) (words : Memory) (i : ℕ) : Type 0 where
  pub rising : (j : ℕ) → j < length (old_held_for program words i) → IsRisingReading program words i j
  pub ack : IsOldAckWord program words i

-- The words of an image of the program in the earlier form: the seven checks hold at every place.
pub record IsOldImage (program : Program) (words : Memory) : Type 0 where
  pub code : (x n : ℕ) → x < length program.tasks → n < length (task_def program x).code → IsCodeWord program words x n
  pub commit_words : (t : ℕ) → t < length program.threads → IsCommitWord program words t
  pub blocks : (t w : ℕ) → t < length program.threads → w < 8 * pages_of (thread_def program t) → IsOldBlockWord program words t w
  pub pipes : (q : ℕ) → q < length program.pipes → IsPipeRight program words q
  pub logs : (t n : ℕ) → t < length program.threads → n < committed words t header.outputs → IsLogWord program words t n
  pub queues : (t : ℕ) → t < length program.threads → IsOldQueueRight program words t
  pub sources : (i : ℕ) → i < length program.sources → IsOldSourceRight program words i
