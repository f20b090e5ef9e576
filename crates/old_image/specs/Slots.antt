-- The words of slots in the earlier form.
use Rattle.std.specs.Prelude.{ℕ, ◌+◌, ◌*◌, ◌/◌, ◌%◌, ◌^◌, ◌<◌, ◌==◌, ◌&&◌, nat_lt, if◌then◌else◌, Option, Some, None}
use Rattle.ink_base.specs.declared.ids.SourceId.{SourceId}
use Rattle.old_image.specs.declared.old_slot.OldSlot.{OldSlot}
use Rattle.old_image.specs.declared.old_slot.OldSlot.TheVariants.{Empty, Full}

-- value in bits 0 to 15, number of the reading in 16 to 31, source in 32 to 35, position in 36 to 56, full flag in 57
abbrev pub old_full_word : (position : ℕ) → SourceId → (reading value : ℕ) → ℕ
old_full_word position source reading value = 2 ^ 57 + position * 2 ^ 36 + source.0 * 2 ^ 32 + reading * 2 ^ 16 + value

-- position in bits 36 to 56
abbrev pub old_empty_word : (position : ℕ) → ℕ
old_empty_word position = position * 2 ^ 36

-- the word of a slot
abbrev pub old_word_of : OldSlot → ℕ
old_word_of (Empty position) = old_empty_word position
old_word_of (Full position source reading value) = old_full_word position source reading value

-- the numbers of an event's word fit their bits
pub record FitsOldSlot (position : ℕ) (source : SourceId) (reading value : ℕ) : Type 0 where
  pub position_fits : position < 2 ^ 21
  pub source_fits : source.0 < 2 ^ 4
  pub reading_fits : reading < 2 ^ 16
  pub value_fits : value < 2 ^ 16

-- each number of a slot fits its bits
abbrev pub IsOldSlot : OldSlot → Type 0
IsOldSlot (Empty position) = position < 2 ^ 21
IsOldSlot (Full position source reading value) = FitsOldSlot position source reading value

-- the event in the bits of a word
abbrev pub old_full_in : (word : ℕ) → OldSlot
old_full_in word = Full (word / 2 ^ 36 % 2 ^ 21) (record { 0 = word / 2 ^ 32 % 2 ^ 4 }) (word / 2 ^ 16 % 2 ^ 16) (word % 2 ^ 16)

-- the slot that has a word, if there is one: none has bits from 58 on
abbrev pub old_slot_in : (word : ℕ) → Option OldSlot
old_slot_in word =
    if word / 2 ^ 57 == 1 then Some (old_full_in word)
    else (if nat_lt word (2 ^ 57) && (word % 2 ^ 36 == 0) then Some (Empty (word / 2 ^ 36)) else None)
