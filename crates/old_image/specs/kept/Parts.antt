-- What the checks of a queue and a source of the earlier form ask of their parts.
use Rattle.std.specs.Prelude.{◌≡◌, ◌≢◌, ℕ, ◌+◌, ◌%◌, ◌^◌, ◌<◌, ◌≤◌, false, List, length, Option, Some, None}
use Rattle.task_isa.specs.declared.program.Program.{Program}
use Rattle.fram_words.specs.Places.{Memory, Slot, Ack}
use Rattle.prog_check.specs.Lookup.{thread_def, source_thread}
use Rattle.never_cut.specs.Stands.{flag}
use Rattle.image_checks.specs.Failing.{IsFirstFault, CodeHolds, CommitWordsHold, PipesHold, LogsHold}
use Rattle.old_image.specs.declared.old_event.OldEvent.{OldEvent}
use Rattle.old_image.specs.Slots.{old_empty_word}
use Rattle.old_image.specs.Told.{old_finished, old_released, old_held_for, old_event_at, old_origin_word}
use Rattle.old_image.specs.Image.{IsOldSlotWord, is_old_finished_at}
use Rattle.old_image.specs.Failing.{AreOldSlots, OldBlocksHold}

-- the slot of a position has the empty word of the position, which fits its bits
pub record IsFree (program : Program) (words : Memory) (t position : ℕ) : Type 0 where
  pub empty : words (Slot t (position % (thread_def program t).queue)) ≡ old_empty_word position
  pub fits : position < 2 ^ 21

-- the position is that of the first slot that is wrong
pub record IsFirstSlot (program : Program) (words : Memory) (t position : ℕ) : Type 0 where
  pub k : ℕ
  pub at : position ≡ old_released program words t + k
  pub fault : IsFirstFault (IsOldSlotWord program words t) (thread_def program t).queue k

-- it is, or no slot is wrong
abbrev pub FindsSlot : Program → Memory → (t : ℕ) → (position : Option ℕ) → Type 0
FindsSlot program words t None = AreOldSlots program words t
FindsSlot program words t (Some position) = IsFirstSlot program words t position

-- no earlier thread has a finished event
abbrev pub AreUnfinishedBefore : Program → Memory → (t : ℕ) → Type 0
AreUnfinishedBefore program words t = (u : ℕ) → u < t → old_finished program words u ≡ false

-- the words are those of the event's origin and value
abbrev pub IsWordOf : OldEvent → (origin value : ℕ) → Type 0
IsWordOf e origin value = (origin ≡ old_origin_word e) × (value ≡ e.value)

-- the event isn't of source i, or its reading isn't before this one
abbrev pub ComesAfter : (i : ℕ) → OldEvent → (after : ℕ) → Type 0
ComesAfter i e after = e.source.0 ≡ i → after ≤ e.reading

-- none of the first so many events is of source i
abbrev pub NoneOwn : (i : ℕ) → List OldEvent → (count : ℕ) → Type 0
NoneOwn i held count = (k : ℕ) → k < count → (old_event_at held k).source.0 ≢ i

-- the first of them that is of source i stands at a place
pub record IsFirstOwn (i : ℕ) (held : List OldEvent) (place : ℕ) : Type 0 where
  pub inside : place < length held
  pub own : (old_event_at held place).source.0 ≡ i
  pub before : NoneOwn i held place

-- it does, or none of them is of source i
abbrev pub FindsOwn : (i : ℕ) → List OldEvent → (place : Option ℕ) → Type 0
FindsOwn i held None = NoneOwn i held (length held)
FindsOwn i held (Some place) = IsFirstOwn i held place

-- ACK is at most the number of the reading at a place among the held ones, or one more where that event is finished
abbrev pub IsAckBefore : Program → Memory → (i place : ℕ) → Type 0
IsAckBefore program words i place =
    words (Ack i) ≤ (old_event_at (old_held_for program words i) place).reading + flag (is_old_finished_at program words (source_thread program i) place)

-- the checks on code, commit words, blocks, pipes and logs hold
pub record PrivateHolds (program : Program) (words : Memory) : Type 0 where
  pub code : CodeHolds program words
  pub commit_words : CommitWordsHold program words
  pub blocks : OldBlocksHold program words
  pub pipes : PipesHold program words
  pub logs : LogsHold program words
