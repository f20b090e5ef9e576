-- A queue and its sources: what there is of them, what their words stand for, what an entry asks of them, and what it makes of them.
use Rattle.std.specs.Prelude.{◌≡◌, ◌⊎◌, ℕ, zero, suc, ◌+◌, ◌-◌, ◌/◌, ◌%◌, ◌^◌, ◌<◌, ◌≤◌, ◌==◌, if◌then◌else◌, Bool, true, false, List, [], ◌∷◌, ◌++◌, length, drop, slice_index, slice_index_or}
use Rattle.std.specs.Bool.{MatchBool}
use Rattle.ink_base.specs.declared.event.Event.{Event}
use Rattle.ink_base.specs.declared.event.Origin.TheVariants as origins
use Rattle.push_core.specs.declared.slot.Slot.{Slot}
use Rattle.push_core.specs.declared.slot.Slot.TheVariants.{Full}
use Rattle.push_core.specs.Slots.{full_word, empty_word}
use Rattle.push_core.specs.Table.{src_word}

-- the events that were accepted and not released, whether the first of them is finished, and the number of those released
pub record Queue : Type 0 where
  pub held : List Event
  pub finished : Bool
  pub released : ℕ

-- the next reading, the number of accepted ones, and whether the next one was refused
pub record Source : Type 0 where
  pub next : ℕ
  pub accepted : ℕ
  pub refused : Bool

-- a queue that has accepted nothing
abbrev pub open_queue : Queue
open_queue = record { held = []; finished = false; released = 0 }

-- a source that has settled nothing
abbrev pub open_source : Source
open_source = record { next = 0; accepted = 0; refused = false }

-- the number of events that a queue has accepted; also the position of its next one
abbrev pub published : Queue → ℕ
published q = q.released + length q.held

-- what stands for an event that isn't there
abbrev pub no_event : Event
no_event = record { origin = origins.Source (record { 0 = 0 }) 0; value = 0 }

-- one of the held events
abbrev pub event_at : List Event → ℕ → Event
event_at held k = slice_index_or held k no_event

-- the number of an event's source; for an event of a pipe or a timer 256, which no source has
abbrev pub event_source : Event → ℕ
event_source e = elim e.origin [ origins.Source source count ↦ source.0 | origins.Pipe pipe item ↦ 256 | origins.Timer timer deadline ↦ 256 ]

-- the number of accepted events of its source before it, modulo 64
abbrev pub event_count : Event → ℕ
event_count e = elim e.origin [ origins.Source source count ↦ count | origins.Pipe pipe item ↦ 0 | origins.Timer timer deadline ↦ 0 ]

-- it is the event of source i with this number
abbrev pub IsNumber : (i number : ℕ) → Event → Type 0
IsNumber i number e = e.origin ≡ origins.Source (record { 0 = i }) (number % 64)

-- the event of a reading with this value, of source i, after so many accepted ones
abbrev pub reading_event : (i accepted value : ℕ) → Event
reading_event i accepted value = record { origin = origins.Source (record { 0 = i }) (accepted % 64); value = value }

-- the event of a source's next reading
abbrev pub next_event : (i : ℕ) → (readings : List ℕ) → Source → Event
next_event i readings s = reading_event i s.accepted (slice_index readings s.next)

-- it is an event of one of so many sources, whose queue is t, and each of its numbers fits its bits
abbrev pub IsQueued : (sources : ℕ) → (queue_of : ℕ → ℕ) → (t : ℕ) → Event → Type 0
IsQueued sources queue_of t e = elim e.origin [
  | origins.Source source count ↦ (source.0 < sources) × (queue_of source.0 ≡ t) × (count < 64) × (e.value < 2 ^ 32)
  | origins.Pipe pipe item ↦ ⊥
  | origins.Timer timer deadline ↦ ⊥
]

-- how many readings of those among the first so many sources that feed queue t aren't settled
abbrev pub unsettled_into : (queue_of : ℕ → ℕ) → (readings : ℕ → List ℕ) → (source : ℕ → Source) → (t count : ℕ) → ℕ
unsettled_into queue_of readings source t zero = 0
unsettled_into queue_of readings source t (suc i) =
    unsettled_into queue_of readings source t i + (if queue_of i == t then length (readings i) - (source i).next else 0)

-- a push or a refusal asks for it: the source's next reading is there
abbrev pub HasReading : (readings : List ℕ) → Source → Type 0
HasReading readings s = s.next < length readings

-- a push asks for it: the queue has a free place
abbrev pub HasPlace : (places : ℕ) → Queue → Type 0
HasPlace places q = length q.held < places

-- a refusal asks for it: the queue has none
abbrev pub IsFull : (places : ℕ) → Queue → Type 0
IsFull places q = length q.held ≡ places

-- a skip asks for it: the source's next reading was refused
abbrev pub IsRefused : Source → Type 0
IsRefused s = s.refused ≡ true

-- a release asks for it: the queue's first event is finished
abbrev pub IsFinished : Queue → Type 0
IsFinished q = q.finished ≡ true

-- the event is the queue's first
abbrev pub IsFirst : Event → Queue → Type 0
IsFirst e q = (rest : List Event) × (q.held ≡ e ∷ rest)

-- a finished event of source i with this count is the queue's first
pub record IsFinishing (i count : ℕ) (q : Queue) : Type 0 where
  pub value : ℕ
  pub first : IsFirst (record { origin = origins.Source (record { 0 = i }) count; value = value }) q
  pub finished : q.finished ≡ true

-- a push puts the event behind those that are held
abbrev pub with_event : Queue → Event → Queue
with_event q e = record { held = q.held ++ e ∷ []; finished = q.finished; released = q.released }

-- a commit finishes the first event
abbrev pub with_finished : Queue → Queue
with_finished q = record { held = q.held; finished = true; released = q.released }

-- a release lets it go
abbrev pub without_first : Queue → Queue
without_first q = record { held = drop 1 q.held; finished = false; released = q.released + 1 }

-- a push accepts and settles the next reading
abbrev pub with_accepted : Source → Source
with_accepted s = record { next = s.next + 1; accepted = s.accepted + 1; refused = false }

-- a refusal leaves its mark
abbrev pub with_refused : Source → Source
with_refused s = record { next = s.next; accepted = s.accepted; refused = true }

-- a skip settles the refused reading
abbrev pub with_skipped : Source → Source
with_skipped s = record { next = s.next + 1; accepted = s.accepted; refused = false }

-- the word of an event of a queue at a position
abbrev pub event_word : (position : ℕ) → Event → ℕ
event_word position e = elim e.origin [
  | origins.Source source count ↦ full_word position source count e.value
  | origins.Pipe pipe item ↦ 0
  | origins.Timer timer deadline ↦ 0
]

-- what that word reads as
abbrev pub event_slot : (position : ℕ) → Event → Slot
event_slot position e = Full position (record { 0 = event_source e }) (event_count e) e.value

-- each number of an event at a position fits its bits
pub record FitsEvent (position : ℕ) (e : Event) : Type 0 where
  pub position_fits : position < 2 ^ 21
  pub source_fits : event_source e < 2 ^ 4
  pub count_fits : event_count e < 2 ^ 6
  pub value_fits : e.value < 2 ^ 32

-- the slots of a queue hold its events and are empty otherwise; its tail is the number of published events, or one behind
pub record StandsQueue (places : ℕ) (slot : ℕ → ℕ) (tail : ℕ) (q : Queue) : Type 0 where
  pub room : length q.held ≤ places
  pub full_slots : (k : ℕ) → k < length q.held → slot ((q.released + k) % places) ≡ event_word (q.released + k) (event_at q.held k)
  pub empty_slots : (s : ℕ) → published q ≤ s → s < q.released + places → slot (s % places) ≡ empty_word s
  pub tail_near : (tail ≡ published q) ⊎ (tail + 1 ≡ published q)

-- an event of source i with this number is held
abbrev pub HoldsNumber : (i number : ℕ) → List Event → Type 0
HoldsNumber i number held = (k : ℕ) × (k < length held) × IsNumber i number (event_at held k)

-- the queue holds the event after those that SRC counts, or ACK counts it
abbrev pub IsOneMore : (i src ack : ℕ) → List Event → Type 0
IsOneMore i src ack held = HoldsNumber i (src % 2 ^ 32) held ⊎ (ack ≡ (src % 2 ^ 32 + 1) % 64)

-- what a source's words, SRC and ACK, and the events of its queue tell of it: one reading more is accepted and settled than SRC says, where the queue
-- or ACK has its event; else as many as it says
pub record StandsSource (i src ack : ℕ) (held : List Event) (s : Source) : Type 0 where
  pub one_more : IsOneMore i src ack held → (s.accepted ≡ src % 2 ^ 32 + 1) × (s.next ≡ src / 2 ^ 32 + 1)
  pub as_many : (IsOneMore i src ack held → ⊥) → (s.accepted ≡ src % 2 ^ 32) × (s.next ≡ src / 2 ^ 32)

-- the events of source i among these have in order the counts from first to last, last left out, modulo 64
abbrev pub Numbered : (i : ℕ) → List Event → (first last : ℕ) → Type 0
Numbered i [] first last = first ≡ last
Numbered i (e ∷ held) first last =
    MatchBool (event_source e == i) ((event_count e ≡ first % 64) × Numbered i held (first + 1) last) (Numbered i held first last)

-- SRC counts all that was accepted and settled, or all but the last
abbrev pub Stored : (src : ℕ) → Source → Type 0
Stored src s = (a : ℕ) × (k : ℕ) × (src ≡ src_word a k) × (((s.accepted ≡ a) × (s.next ≡ k)) ⊎ ((s.accepted ≡ a + 1) × (s.next ≡ k + 1)))

-- SRC, ACK and the held events have a source's numbers in order: those that are held end at the accepted number, and ACK is where they begin, or one
-- more where the first is finished
pub record KeepsNumbers (i src ack : ℕ) (q : Queue) (s : Source) : Type 0 where
  -- the number of the source's events that were released
  pub gone : ℕ
  pub numbered : Numbered i q.held gone s.accepted
  pub ack_is : (ack ≡ gone % 64) ⊎ (IsFinishing i (gone % 64) q × (ack ≡ (gone + 1) % 64))
  pub stored : Stored src s
