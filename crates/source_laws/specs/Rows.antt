-- The access table of a source over places: in each row one access. The row that follows is that of the machine.
use Rattle.std.specs.Prelude.{ℕ, ◌+◌, ◌%◌, length, slice_index, Option, Some, None}
use Rattle.ink_base.specs.declared.event.Event.{Event}
use Rattle.push_core.specs.Table.{src_word, take_of, point_of}
use Rattle.push_core.specs.declared.port.Port.{Port}
use Rattle.push_core.specs.declared.row.Row.{Row}
use Rattle.push_core.specs.declared.stage.Stage.{Stage}
use Rattle.push_core.specs.declared.stage.Stage.TheVariants.{LoadSrc, LoadSlots, LoadAck, LoadTail, LoadSlot, Publish, MoveTail, HelpTail, StoreSkip, StoreAccepted}
use Rattle.push_core.specs.declared.point.Point.{Point}
use Rattle.push_core.specs.declared.point.Point.TheVariants as points
use Rattle.push_core.specs.Slots.{empty_word}
use Rattle.push_core.specs.Queue.{reading_event, event_word}
use Rattle.fram_words.specs.Places.{Place, Tail, Ack, Src, Access, Load, Store, Exchange, place_of}
use Rattle.fram_words.specs.Shape.{address}
use Rattle.fram_words.specs.Places as places
use Rattle.source_laws.specs.Model.{places_for, Board, Entry, Push, Refuse, Skip}

-- the slot of a position in the queue of source i
abbrev pub slot_place : Board → ℕ → ℕ → Place
slot_place board i p = places.Slot (board.queue_of i) (p % places_for board i)

-- the event of reading k of source i, after so many accepted ones
abbrev pub event_of : Board → (i a k : ℕ) → Event
event_of board i a k = reading_event i a (slice_index (board.readings i) k)

-- the access of each row
abbrev pub access_at : Board → (i a k : ℕ) → Stage → Access
access_at board i a k LoadSrc = Load (Src i)
access_at board i a k (LoadSlots n seen) = Load (places.Slot (board.queue_of i) n)
access_at board i a k (LoadAck seen) = Load (Ack i)
access_at board i a k LoadTail = Load (Tail (board.queue_of i))
access_at board i a k (LoadSlot p) = Load (slot_place board i p)
access_at board i a k (Publish p) = Exchange (slot_place board i p) (empty_word p) (event_word p (event_of board i a k))
access_at board i a k (MoveTail p) = Exchange (Tail (board.queue_of i)) p (p + 1)
access_at board i a k (HelpTail p) = Exchange (Tail (board.queue_of i)) p (p + 1)
access_at board i a k StoreSkip = Store (Src i) (src_word a (k + 1))
access_at board i a k StoreAccepted = Store (Src i) (src_word (a + 1) (k + 1))

-- the access of a source in its row
abbrev pub access : Board → ℕ → Row → Access
access board i row = access_at board i row.accepted row.next row.stage

-- where the words of source i stand
abbrev pub port_of : Board → ℕ → Port
port_of board i = record {
  source = record { 0 = i };
  queue = record { tail = address board.shape (Tail (board.queue_of i)); slots = address board.shape (places.Slot (board.queue_of i) 0); places = places_for board i };
  ack = address board.shape (Ack i);
  src = address board.shape (Src i);
}

-- the row that follows where the access found this word
abbrev pub take : Board → ℕ → Row → ℕ → Row
take board i row word = take_of (port_of board i) (length (board.readings i)) row word

-- the entry that a point of source i stands for
abbrev pub entry_of : ℕ → Point → Option Entry
entry_of i points.Nothing = None
entry_of i points.Pushed = Some (Push i)
entry_of i points.Refused = Some (Refuse i)
entry_of i points.Skipped = Some (Skip i)

-- the entry that the access adds to the journal
abbrev pub entry : Board → ℕ → Row → ℕ → Option Entry
entry board i row word = entry_of i (point_of (places_for board i) row.stage word)

-- the word that the access of the row finds
abbrev pub found : Board → (Place → ℕ) → ℕ → Row → ℕ
found board word i row = word (place_of (access board i row))
