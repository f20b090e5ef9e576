-- What the parts of a queue are asked.
use Rattle.std.specs.Prelude.{◌≡◌, ℕ, ◌+◌, ◌%◌, ◌^◌, ◌<◌, false, Option, Some, None}
use Rattle.ink_base.specs.declared.event.Event.{Event}
use Rattle.ink_base.specs.declared.event.Origin.{Origin}
use Rattle.task_isa.specs.declared.program.Program.{Program}
use Rattle.fram_words.specs.Places.{Memory, Slot}
use Rattle.fram_words.specs.Header as header
use Rattle.fram_words.specs.Held.{origin_of}
use Rattle.thread_state.specs.Pages.{committed}
use Rattle.push_core.specs.Slots.{empty_word}
use Rattle.prog_check.specs.Lookup.{thread_def}
use Rattle.never_cut.specs.Image.{IsSlotWord, IsServedFirst}
use Rattle.never_cut.specs.ReadOff.{told_finished, told_held, told_released}
use Rattle.image_checks.specs.Failing.{IsFirstFault, AreSlots}

-- the slot of a position has the empty word of the position, which fits its bits
pub record IsFree (program : Program) (words : Memory) (t position : ℕ) : Type 0 where
  pub empty : words (Slot t (position % (thread_def program t).queue)) ≡ empty_word position
  pub fits : position < 2 ^ 21

-- the position is that of the first slot that is wrong
pub record IsFirstSlot (program : Program) (words : Memory) (t position : ℕ) : Type 0 where
  pub k : ℕ
  pub at : position ≡ told_released program words t + k
  pub fault : IsFirstFault (IsSlotWord program words t) (thread_def program t).queue k

-- it is, or no slot is wrong
abbrev pub FindsSlot : Program → Memory → (t : ℕ) → (position : Option ℕ) → Type 0
FindsSlot program words t None = AreSlots program words t
FindsSlot program words t (Some position) = IsFirstSlot program words t position

-- no earlier thread has a finished event
abbrev pub AreUnfinishedBefore : Program → Memory → (t : ℕ) → Type 0
AreUnfinishedBefore program words t = (u : ℕ) → u < t → told_finished program words u ≡ false

-- the event of the thread's chain is the first held one, where it is of a source
abbrev pub ServesFirst : Program → Memory → (t : ℕ) → Type 0
ServesFirst program words t =
    IsServedFirst (told_held program words t) (origin_of (committed words t header.origin)) (committed words t header.value)

-- there is an event, of this origin and value
abbrev pub IsEventOf : Origin → (value : ℕ) → Option Event → Type 0
IsEventOf origin value None = ⊥
IsEventOf origin value (Some e) = e ≡ record { origin = origin; value = value }
