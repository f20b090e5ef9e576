-- The stages in which the words are renewed: the sources, the origins of running chains, and the queues, each up to some number.
use Rattle.std.specs.Prelude.{◌≡◌, ◌≢◌, ℕ, ◌+◌, ◌<◌, ◌≤◌, length}
use Rattle.task_isa.specs.declared.program.Program.{Program}
use Rattle.fram_words.specs.Places.{Place, Memory, Slot, Ack, Src}
use Rattle.fram_words.specs.Header as header
use Rattle.fram_words.specs.Held.{src_word}
use Rattle.thread_state.specs.Pages.{committed}
use Rattle.push_core.specs.Slots.{empty_word}
use Rattle.prog_check.specs.Lookup.{thread_def}
use Rattle.old_image.specs.Told.{old_released, old_held, old_held_for, own_old, old_next}
use Rattle.old_image.specs.Image.{HasSourceChain}
use Rattle.old_image.specs.Renewed.{place_behind, renewed_word, origin_place, without_reading}

-- no word of a source
abbrev pub IsNoSource : Place → Type 0
IsNoSource (Ack i) = ⊥
IsNoSource (Src i) = ⊥
IsNoSource _ = Unit {0}

-- the words of the first so many sources are new, and no word but those of sources was changed
pub record SourcesRenewed (program : Program) (old before after : Memory) (count : ℕ) : Type 0 where
  pub srcs : (i : ℕ) → i < count → after (Src i) ≡ src_word (own_old i (old_held_for program old i)) (old_next program old i)
  pub acks : (i : ℕ) → i < count → after (Ack i) ≡ 0
  pub same : (p : Place) → IsNoSource p → after p ≡ before p

-- not the origin of a chain of a source's event of the first so many threads
abbrev pub IsNoOrigin : Memory → (count : ℕ) → Place → Type 0
IsNoOrigin old count p = (t : ℕ) → t < count → HasSourceChain old t → p ≢ origin_place old t

-- the origins of those are new, and no other word was changed
pub record OriginsRenewed (old before after : Memory) (count : ℕ) : Type 0 where
  pub origins : (t : ℕ) → t < count → HasSourceChain old t → after (origin_place old t) ≡ without_reading (committed old t header.origin)
  pub same : (p : Place) → IsNoOrigin old count p → after p ≡ before p

-- the slots of a thread, so many places behind the first, have their new words
pub record HasNewSlots (program : Program) (old after : Memory) (t count : ℕ) : Type 0 where
  pub held : (k : ℕ) → k < count → k < length (old_held program old t) →
      after (place_behind program old t k) ≡ renewed_word (old_released program old t + k) (old_held program old t) k
  pub empty : (k : ℕ) → k < count → length (old_held program old t) ≤ k → after (place_behind program old t k) ≡ empty_word (old_released program old t + k)

-- no slot of this thread
abbrev pub IsNoSlotOf : (t : ℕ) → Place → Type 0
IsNoSlotOf t (Slot u n) = u ≢ t
IsNoSlotOf t _ = Unit {0}

-- so many slots of a thread are new, and no word but its slots was changed
pub record SlotsRenewed (program : Program) (old before after : Memory) (t count : ℕ) : Type 0 where
  pub slots : HasNewSlots program old after t count
  pub same : (p : Place) → IsNoSlotOf t p → after p ≡ before p

-- no slot
abbrev pub IsNoSlot : Place → Type 0
IsNoSlot (Slot u n) = ⊥
IsNoSlot _ = Unit {0}

-- all slots of the first so many threads are new, and no word but slots was changed
pub record QueuesRenewed (program : Program) (old before after : Memory) (count : ℕ) : Type 0 where
  pub slots : (t : ℕ) → t < count → HasNewSlots program old after t (thread_def program t).queue
  pub same : (p : Place) → IsNoSlot p → after p ≡ before p
