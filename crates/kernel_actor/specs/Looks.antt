-- The word that a look found, by what the seat answers.
use Rattle.std.specs.Prelude.{ℕ, ◌^◌, ◌<◌}
use Rattle.ink_base.specs.declared.event.Event.{Event}
use Rattle.ink_base.specs.declared.event.Origin.TheVariants as origins
use Rattle.push_core.specs.Queue.{event_word}
use Rattle.push_core.specs.Slots.{empty_word, FitsSlot}
use Rattle.event_queue.specs.declared.kernel_calls.Seen.{Seen}
use Rattle.event_queue.specs.declared.kernel_calls.Seen.TheVariants.{Empty, Full, Later}

-- the empty word of the position, the word of an event at it, or the word itself
abbrev pub word_seen : (position : ℕ) → Seen → ℕ
word_seen position Empty = empty_word position
word_seen position (Full event) = event_word position event
word_seen position (Later word) = word

-- the numbers of the event fit their bits
abbrev pub IsTold : (position : ℕ) → Event → Type 0
IsTold position event = elim event.origin [
  | origins.Source source count ↦ FitsSlot position source count × (event.value < 2 ^ 32)
  | origins.Pipe pipe item ↦ ⊥
  | origins.Timer timer deadline ↦ ⊥
]

-- the answer can be told as a word
abbrev pub CanTell : (position : ℕ) → Seen → Type 0
CanTell position Empty = position < 2 ^ 21
CanTell position (Full event) = IsTold position event
CanTell position (Later word) = Unit {0}
