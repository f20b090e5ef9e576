-- The access table of a source: in each row one access, and the row that follows.
use Rattle.std.specs.Prelude.{◌≡◌, ◌≢◌, ℕ, ◌+◌, ◌-◌, ◌*◌, ◌/◌, ◌%◌, ◌^◌, ◌<◌, ◌≤◌, ◌==◌, ◌&&◌, ◌||◌, Bool, true, false, List, length, slice_index, nat_lt, if◌then◌else◌, Option, Some, None}
use Rattle.ink_base.specs.declared.limits.TheConstants as limits
use Rattle.ink_base.specs.declared.ids.SourceId.{SourceId}
use Rattle.fram_words.specs.declared.access.Access.{Access}
use Rattle.fram_words.specs.declared.access.Access.TheVariants.{Load, Store, Exchange}
pub use Rattle.fram_words.specs.Held.{src_word}
use Rattle.push_core.specs.Slots.{full_word, empty_word, slot_in}
use Rattle.push_core.specs.declared.port.Port.{Port}
use Rattle.push_core.specs.declared.row.Row.{Row}
use Rattle.push_core.specs.declared.stage.Stage.{Stage}
use Rattle.push_core.specs.declared.stage.Stage.TheVariants.{LoadSrc, LoadSlots, LoadAck, LoadTail, LoadSlot, Publish, MoveTail, HelpTail, StoreSkip, StoreAccepted}
use Rattle.push_core.specs.declared.slot.Slot.{Slot}
use Rattle.push_core.specs.declared.slot.Slot.TheVariants.{Empty, Full}
use Rattle.push_core.specs.declared.point.Point.{Point}
use Rattle.push_core.specs.declared.point.Point.TheVariants as points
use Rattle.push_core.specs.declared.phase.Phase.{Phase}
use Rattle.push_core.specs.declared.phase.Phase.TheVariants as phases

-- the address of the slot of a position
abbrev pub slot_at : Port → ℕ → ℕ
slot_at port position = port.queue.slots + position % port.queue.places

-- a row
abbrev pub row_at : ℕ → ℕ → Stage → Row
row_at accepted next stage = record { accepted = accepted; next = next; stage = stage }

-- the row in which a boot begins
abbrev pub first_row : Row
first_row = row_at 0 0 LoadSrc

-- the exchange of the empty slot of a tail for an event
abbrev pub publication : Port → (accepted p value : ℕ) → Access
publication port accepted p value = Exchange (slot_at port p) (empty_word p) (full_word p port.source (accepted % 64) value)

-- the access of each row, with the accepted number a and the next reading k
abbrev pub access_at : Port → List ℕ → ℕ → ℕ → Stage → Access
access_at port readings a k LoadSrc = Load port.src
access_at port readings a k (LoadSlots n seen) = Load (port.queue.slots + n)
access_at port readings a k (LoadAck seen) = Load port.ack
access_at port readings a k LoadTail = Load port.queue.tail
access_at port readings a k (LoadSlot p) = Load (slot_at port p)
access_at port readings a k (Publish p) = publication port a p (slice_index readings k)
access_at port readings a k (MoveTail p) = Exchange port.queue.tail p (p + 1)
access_at port readings a k (HelpTail p) = Exchange port.queue.tail p (p + 1)
access_at port readings a k StoreSkip = Store port.src (src_word a (k + 1))
access_at port readings a k StoreAccepted = Store port.src (src_word (a + 1) (k + 1))

-- the access of a source in its row
abbrev pub access_of : Port → List ℕ → Row → Access
access_of port readings row = access_at port readings row.accepted row.next row.stage

-- an access is left: the tail is loaded only for a reading that is left
abbrev pub is_left_at : (number k : ℕ) → Stage → Bool
is_left_at number k LoadTail = nat_lt k number
is_left_at number k stage = true

-- a source has an access left in its row
abbrev pub is_left : (number : ℕ) → Row → Bool
is_left number row = is_left_at number row.next row.stage

-- that it has one, as a fact
abbrev pub IsLeft : (number : ℕ) → Row → Type 0
IsLeft number row = is_left number row ≡ true

-- the access of a row, if one is left
abbrev pub want_of : Port → List ℕ → Row → Option Access
want_of port readings row = if is_left (length readings) row then Some (access_of port readings row) else None

-- the slot holds an event of the source with the count that comes after this many
abbrev pub shows_own : SourceId → ℕ → Option Slot → Bool
shows_own source accepted (Some (Full p i c v)) = i.0 == source.0 && c == accepted % 64
shows_own source accepted (Some (Empty p)) = false
shows_own source accepted None = false

-- the slot of a tail p shows the event one turn of the ring before
abbrev pub is_full_at : (places p : ℕ) → Option Slot → Bool
is_full_at places p (Some (Full q i c v)) = q + places == p
is_full_at places p (Some (Empty q)) = false
is_full_at places p None = false

-- after the load of a slot at boot
abbrev pub after_boot_slot : (places n : ℕ) → Bool → Stage
after_boot_slot places n seen = if nat_lt (n + 1) places then LoadSlots (n + 1) seen else LoadAck seen

-- after the load of the slot of the tail p
abbrev pub after_slot : (places p : ℕ) → Option Slot → Stage
after_slot places p (Some (Empty q)) = if q == p then Publish p else HelpTail p
after_slot places p (Some (Full q i c v)) = if q + places == p then StoreSkip else HelpTail p
after_slot places p None = HelpTail p

-- after the load of ACK
abbrev pub after_ack : (accepted : ℕ) → (left seen : Bool) → (word : ℕ) → Stage
after_ack accepted left seen word = if left && (seen || word == (accepted + 1) % 64) then StoreAccepted else LoadTail

-- after the exchange of the slot of the tail p
abbrev pub after_publish : (p word : ℕ) → Stage
after_publish p word = if word == empty_word p then MoveTail p else HelpTail p

-- the row that follows where the access found this word
abbrev pub take_at : Port → (number a k : ℕ) → Stage → (word : ℕ) → Row
take_at port number a k LoadSrc word = row_at (word % 2 ^ 32) (word / 2 ^ 32) (LoadSlots 0 false)
take_at port number a k (LoadSlots n seen) word = row_at a k (after_boot_slot port.queue.places n (seen || shows_own port.source a (slot_in word)))
take_at port number a k (LoadAck seen) word = row_at a k (after_ack a (nat_lt k number) seen word)
take_at port number a k LoadTail word = row_at a k (LoadSlot word)
take_at port number a k (LoadSlot p) word = row_at a k (after_slot port.queue.places p (slot_in word))
take_at port number a k (Publish p) word = row_at a k (after_publish p word)
take_at port number a k (MoveTail p) word = row_at a k StoreAccepted
take_at port number a k (HelpTail p) word = row_at a k LoadTail
take_at port number a k StoreSkip word = row_at a (k + 1) LoadTail
take_at port number a k StoreAccepted word = row_at (a + 1) (k + 1) LoadTail

-- the row of a source after its access found this word
abbrev pub take_of : Port → (number : ℕ) → Row → (word : ℕ) → Row
take_of port number row word = take_at port number row.accepted row.next row.stage word

-- what the access adds to the journal
abbrev pub point_of : (places : ℕ) → Stage → (word : ℕ) → Point
point_of places (LoadSlot p) word = if is_full_at places p (slot_in word) then points.Refused else points.Nothing
point_of places (Publish p) word = if word == empty_word p then points.Pushed else points.Nothing
point_of places StoreSkip word = points.Skipped
point_of places stage word = points.Nothing

-- where a source is between two readings: booting, ready for one, or past the push or the refusal that settles it
abbrev pub phase_of : Stage → Phase
phase_of LoadSrc = phases.Boot
phase_of (LoadSlots n seen) = phases.Boot
phase_of (LoadAck seen) = phases.Boot
phase_of (MoveTail p) = phases.Published
phase_of StoreAccepted = phases.Published
phase_of StoreSkip = phases.Refused
phase_of stage = phases.Ready

-- the boot is over, and all readings are settled
pub record IsSettled (number : ℕ) (row : Row) : Type 0 where
  pub booted : phase_of row.stage ≢ phases.Boot
  pub none_left : row.next ≡ number

-- the access loads the slot of a tail p, and finds a full word of position p - N, N being the queue's places
pub record FindsOlder (places : ℕ) (stage : Stage) (word : ℕ) : Type 0 where
  pub tail : ℕ
  pub position : ℕ
  pub source : SourceId
  pub count : ℕ
  pub value : ℕ
  pub loads : stage ≡ LoadSlot tail
  pub finds : slot_in word ≡ Some (Full position source count value)
  pub older : position + places ≡ tail

-- the greatest tail that a queue comes to: that of all sources with all their readings
abbrev pub greatest_tail : ℕ
greatest_tail = limits.SOURCES * limits.READINGS

-- the greatest position in a slot: one turn of all places less one behind the greatest tail
abbrev pub greatest_position : ℕ
greatest_position = greatest_tail + limits.QUEUE_PLACES - 1

-- the places are within the limit, at least one and of addresses below 2 ^ 32, and the number of the source is within its own
pub record IsPort (port : Port) : Type 0 where
  pub source : port.source.0 < limits.SOURCES
  pub some : 0 < port.queue.places
  pub no_more : port.queue.places ≤ limits.QUEUE_PLACES
  pub slots : port.queue.slots + port.queue.places ≤ 2 ^ 32

-- no more readings than a source can have
abbrev pub IsFew : List ℕ → Type 0
IsFew readings = length readings ≤ limits.READINGS

-- a row's slot is one of the queue; where it has a tail, this is in its range and reading k is left
abbrev pub FitsStage : (places number k : ℕ) → Stage → Type 0
FitsStage places number k LoadSrc = Unit {0}
FitsStage places number k (LoadSlots n seen) = n < places
FitsStage places number k (LoadAck seen) = Unit {0}
FitsStage places number k LoadTail = Unit {0}
FitsStage places number k (LoadSlot p) = (k < number) × (p ≤ greatest_tail)
FitsStage places number k (Publish p) = (k < number) × (p ≤ greatest_tail)
FitsStage places number k (MoveTail p) = (k < number) × (p ≤ greatest_tail)
FitsStage places number k (HelpTail p) = (k < number) × (p ≤ greatest_tail)
FitsStage places number k StoreSkip = k < number
FitsStage places number k StoreAccepted = k < number

-- a row that a source of this port with so many readings can come to: an accepted event settles a reading too, so the accepted number goes no further ahead of the next reading
pub record IsRowFor (port : Port) (number : ℕ) (row : Row) : Type 0 where
  pub place : IsPort port
  pub accepted : row.accepted ≤ number + row.next
  pub next : row.next ≤ number
  pub stage : FitsStage port.queue.places number row.next row.stage

-- the word is one that the access may find: both numbers of SRC are at most the number of readings
abbrev pub IsAnswer : (number : ℕ) → Stage → (word : ℕ) → Type 0
IsAnswer number LoadSrc word = (word % 2 ^ 32 ≤ number) × (word / 2 ^ 32 ≤ number)
IsAnswer number LoadTail word = word ≤ greatest_tail
IsAnswer number stage word = Unit {0}
