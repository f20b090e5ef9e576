-- The queues and sources that the words of a board tell, and the state that is read off them.
use Rattle.std.specs.Prelude.{◌≡◌, ℕ, zero, suc, ◌+◌, ◌-◌, ◌%◌, ◌^◌, ◌<◌, ◌==◌, ◌&&◌, ◌||◌, nat_lt, Bool, false, if◌then◌else◌, List, [], ◌∷◌, length, All, Option, Some, None}
use Rattle.std.specs.List.{list_any}
use Rattle.std.specs.List.Sorted.{IsNonDecreasingBy}
use Rattle.std.specs.Option.{ForSome, ForNone}
use Rattle.ink_base.specs.declared.event.Event.{Event}
use Rattle.ink_base.specs.declared.event.Origin.TheVariants as origins
use Rattle.ink_base.specs.declared.output.Output.{Output}
use Rattle.task_isa.specs.declared.program.Program.{Program}
use Rattle.fram_words.specs.Places.{Memory, Slot, Ack, Clock, Src}
use Rattle.fram_words.specs.Header as header
use Rattle.fram_words.specs.Held.{src_of}
use Rattle.thread_state.specs.Pages.{committed}
use Rattle.push_core.specs.Slots.{slot_in}
use Rattle.push_core.specs.Queue.{Queue, Source, event_source, event_count}
use Rattle.push_core.specs.declared.slot.Slot as slot
use Rattle.push_core.specs.declared.slot.Slot.TheVariants as slots
use Rattle.prog_check.specs.Lookup.{thread_def, source_thread}
use Rattle.never_cut.specs.declared.model.Model.{Model}
use Rattle.never_cut.specs.State.{thread_of, source_of, queue_of, source_in}
use Rattle.never_cut.specs.Stands.{flag, StandsPrivate}
use Rattle.never_cut.specs.Sound.{HasShape}
use Rattle.never_cut.specs.Ranges.{IsOwnOrigin}

-- what the slot of a position holds, in the queue of a thread
abbrev pub slot_of : Program → Memory → (t p : ℕ) → Option slot.Slot
slot_of program words t p = slot_in (words (Slot t (p % (thread_def program t).queue)))

-- it is a full word of this position
abbrev pub is_full_of : (p : ℕ) → Option slot.Slot → Bool
is_full_of p (Some (slots.Full q source count value)) = q == p
is_full_of p _ = false

-- its event, where it is a full word of this position from a source of the thread
abbrev pub event_in : Program → (t p : ℕ) → Option slot.Slot → Option Event
event_in program t p (Some (slots.Full q source count value)) =
    if (q == p) && (nat_lt source.0 (length program.sources) && (source_thread program source.0 == t))
    then Some (record { origin = origins.Source source count; value = value })
    else None
event_in program t p _ = None

-- the events of a queue from a position on, so many at most, up to the first slot that holds none
abbrev pub events_from : Program → Memory → (t p most : ℕ) → List Event
events_from program words t p zero = []
events_from program words t p (suc most) =
    elim (event_in program t p (slot_of program words t p)) [ None ↦ [] | Some e ↦ e ∷ events_from program words t (p + 1) most ]

-- the last event that was finished is still held: there is one, and its slot has a full word of its position
abbrev pub told_finished : Program → Memory → (t : ℕ) → Bool
told_finished program words t = nat_lt 0 (committed words t header.finished) && is_full_of (committed words t header.finished - 1) (slot_of program words t (committed words t header.finished - 1))

-- so it isn't counted as released
abbrev pub told_released : Program → Memory → (t : ℕ) → ℕ
told_released program words t = committed words t header.finished - flag (told_finished program words t)

-- the events that stand from there on are held
abbrev pub told_held : Program → Memory → (t : ℕ) → List Event
told_held program words t = events_from program words t (told_released program words t) (thread_def program t).queue

-- the queue of a thread that the words tell
abbrev pub told_queue : Program → Memory → (t : ℕ) → Queue
told_queue program words t = record { held = told_held program words t; finished = told_finished program words t; released = told_released program words t }

-- the event is the one of source i with this number
abbrev pub has_number : (i number : ℕ) → Event → Bool
has_number i number e = (event_source e == i) && (event_count e == number % 64)

-- the event after those that SRC counts is held, or ACK counts it
abbrev pub is_one_more : Program → Memory → (i : ℕ) → Bool
is_one_more program words i =
    list_any (has_number i (src_of (words (Src i))).accepted) (told_held program words (source_thread program i)) || (words (Ack i) == ((src_of (words (Src i))).accepted + 1) % 64)

-- the source that they tell: as SRC says, or with one more accepted and settled
abbrev pub told_source : Program → Memory → (i : ℕ) → Source
told_source program words i =
    record {
      next = (src_of (words (Src i))).next + flag (is_one_more program words i);
      accepted = (src_of (words (Src i))).accepted + flag (is_one_more program words i);
      refused = false;
    }

-- an idle thread has no event; a running chain has one of its thread's own
pub record HasEventOf (program : Program) (m : Model) (t : ℕ) : Type 0 where
  pub idle : ForNone (thread_of m t).running ((thread_of m t).event ≡ None)
  pub chain : ForSome (thread_of m t).running (λ task. (e : Event) × ((thread_of m t).event ≡ Some e) × IsOwnOrigin program t e.origin)

-- an output of a thread of the program, with a value of 32 bits
abbrev pub IsOutputOf : Program → Output → Type 0
IsOutputOf program o = (o.thread.0 < length program.threads) × (o.value < 2 ^ 32)

-- The state that the words tell: its parts are as many as the program declares, the private words stand for it, queues and sources are those in the words,
-- outputs stand in the order of their stamps, and there is no scan.
pub record IsReadOff (program : Program) (words : Memory) (m : Model) : Type 0 where
  pub shape : HasShape program m
  pub private : StandsPrivate words program m
  pub events : (t : ℕ) → t < length program.threads → HasEventOf program m t
  pub queues : (t : ℕ) → t < length program.threads → queue_of (thread_of m t) ≡ told_queue program words t
  pub sources : (i : ℕ) → i < length program.sources → source_in (source_of m i) ≡ told_source program words i
  pub outputs : All (IsOutputOf program) m.outputs
  pub ordered : IsNonDecreasingBy (λ (o : Output). o.stamp) m.outputs
  pub clock : m.clock ≡ words Clock
  pub scan : m.scan ≡ None
