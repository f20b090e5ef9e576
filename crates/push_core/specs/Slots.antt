-- The words of slots.
use Rattle.std.specs.Prelude.{ℕ, ◌+◌, ◌*◌, ◌/◌, ◌%◌, ◌^◌, ◌<◌, ◌==◌, if◌then◌else◌, Option, Some, None}
use Rattle.ink_base.specs.declared.ids.SourceId.{SourceId}
use Rattle.push_core.specs.declared.slot.Slot.{Slot}
use Rattle.push_core.specs.declared.slot.Slot.TheVariants.{Empty, Full}

-- value in bits 0 to 31, count in 32 to 37, source in 38 to 41, position in 42 to 62, full flag in 63
abbrev pub full_word : ℕ → SourceId → ℕ → ℕ → ℕ
full_word position source count value = 2 ^ 63 + position * 2 ^ 42 + source.0 * 2 ^ 38 + count * 2 ^ 32 + value

-- position in bits 42 to 62
abbrev pub empty_word : ℕ → ℕ
empty_word position = position * 2 ^ 42

-- the word of a slot
abbrev pub word_of : Slot → ℕ
word_of (Empty position) = empty_word position
word_of (Full position source count value) = full_word position source count value

-- position, source and count fit their bits
pub record FitsSlot (position : ℕ) (source : SourceId) (count : ℕ) : Type 0 where
  pub position_fits : position < 2 ^ 21
  pub source_fits : source.0 < 2 ^ 4
  pub count_fits : count < 2 ^ 6

-- each number fits its bits
abbrev pub IsSlot : Slot → Type 0
IsSlot (Empty position) = position < 2 ^ 21
IsSlot (Full position source count value) = FitsSlot position source count × (value < 2 ^ 32)

-- the event in the bits of a word
abbrev pub full_in : ℕ → Slot
full_in word = Full (word / 2 ^ 42 % 2 ^ 21) (record { 0 = word / 2 ^ 38 % 2 ^ 4 }) (word / 2 ^ 32 % 2 ^ 6) (word % 2 ^ 32)

-- the slot that has a word, if there is one
abbrev pub slot_in : ℕ → Option Slot
slot_in word = if word / 2 ^ 63 == 1 then Some (full_in word) else (if word % 2 ^ 42 == 0 then Some (Empty (word / 2 ^ 42)) else None)
