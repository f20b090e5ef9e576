-- Which event of a queue an access of the kernel serves.
use Rattle.std.specs.Prelude.{◌≡◌, ℕ, ◌+◌, ◌%◌, Bool, true, false, Option, Some, None}
use Rattle.task_isa.specs.declared.program.Program.{Program}
use Rattle.fram_words.specs.Places.{Place, Slot, Ack, Access, Load, Store, place_of}
use Rattle.push_core.specs.Slots.{empty_word}
use Rattle.prog_check.specs.Lookup.{thread_def}
use Rattle.ink_layout.specs.declared.slot_at.SlotAt.{SlotAt}

-- the place is a slot of a queue, or an ACK
abbrev pub is_slot_or_ack : Place → Bool
is_slot_or_ack (Slot t n) = true
is_slot_or_ack (Ack i) = true
is_slot_or_ack _ = false

-- the slot is the one of the event's position in its queue
abbrev pub IsSlotAt : Program → (t slot : ℕ) → SlotAt → Type 0
IsSlotAt program t n at = (t ≡ at.thread.0) × (n ≡ at.position % (thread_def program at.thread.0).queue)

-- the access loads the event's slot, empties it for the position one turn behind, or acknowledges the event
abbrev pub ServesSlot : Program → Access → SlotAt → Type 0
ServesSlot program (Load (Slot t n)) at = IsSlotAt program t n at
ServesSlot program (Store (Slot t n) word) at = IsSlotAt program t n at × (word ≡ empty_word (at.position + (thread_def program at.thread.0).queue))
ServesSlot program (Store (Ack i) word) at = Unit {0}
ServesSlot program _ at = ⊥

-- the event that the access serves; none exactly where it is one to neither a slot nor an ACK
abbrev pub IsSlotWanted : Program → Access → Option SlotAt → Type 0
IsSlotWanted program access None = is_slot_or_ack (place_of access) ≡ false
IsSlotWanted program access (Some at) = ServesSlot program access at
