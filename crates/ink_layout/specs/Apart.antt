-- Where the words of a layout lie: apart from one another, below `words`, and the private ones below `private`.
use Rattle.std.specs.Prelude.{◌≡◌, ◌<◌, ◌≤◌, Bool, true, false}
use Rattle.task_isa.specs.declared.program.Program.{Program}
use Rattle.fram_words.specs.declared.layout.Layout.{Layout}
use Rattle.fram_words.specs.Places.{Place, Tail, Slot, Ack, Clock, Src}
use Rattle.ink_layout.specs.Addresses.{layout_address}
use Rattle.ink_layout.specs.Shape.{IsOnBoard}

-- different places of the board have different addresses
abbrev pub LieApart : Program → Layout → Type 0
LieApart program layout = (p q : Place) → IsOnBoard program p → IsOnBoard program q → layout_address layout p ≡ layout_address layout q → p ≡ q

-- every place of the board has an address below `words`
abbrev pub LieWithin : Program → Layout → Type 0
LieWithin program layout = (p : Place) → IsOnBoard program p → layout_address layout p < layout.words

-- the words of queues, sources and the clock; code, commit words, pages, logs and rings are private
abbrev pub is_shared : Place → Bool
is_shared (Tail t) = true
is_shared (Slot t n) = true
is_shared (Ack i) = true
is_shared Clock = true
is_shared (Src i) = true
is_shared _ = false

-- private places have addresses below `private`, and shared ones from there on
pub record AreDivided (program : Program) (layout : Layout) : Type 0 where
  pub private : (p : Place) → IsOnBoard program p → is_shared p ≡ false → layout_address layout p < layout.private
  pub shared : (p : Place) → IsOnBoard program p → is_shared p ≡ true → layout.private ≤ layout_address layout p
