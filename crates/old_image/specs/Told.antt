-- The queues and sources that the words of a board tell in the earlier form.
use Rattle.std.specs.Prelude.{ℕ, zero, suc, ◌+◌, ◌-◌, ◌%◌, ◌<◌, ◌==◌, ◌&&◌, max, nat_lt, Bool, false, if◌then◌else◌, List, [], ◌∷◌, length, slice_index_or, Option, Some, None}
use Rattle.ink_base.specs.declared.event.Origin.TheVariants as origins
use Rattle.task_isa.specs.declared.program.Program.{Program}
use Rattle.fram_words.specs.Places.{Memory, Slot, Ack, Src}
use Rattle.fram_words.specs.Header as header
use Rattle.fram_words.specs.Held.{origin_word}
use Rattle.thread_state.specs.Pages.{committed}
use Rattle.prog_check.specs.Lookup.{thread_def, source_thread}
use Rattle.never_cut.specs.Stands.{flag}
use Rattle.old_image.specs.declared.old_slot.OldSlot.{OldSlot}
use Rattle.old_image.specs.declared.old_slot.OldSlot.TheVariants.{Empty, Full}
use Rattle.old_image.specs.declared.old_event.OldEvent.{OldEvent}
use Rattle.old_image.specs.Slots.{old_slot_in}

-- what the slot of a position holds, in the queue of a thread
abbrev pub old_slot_of : Program → Memory → (t p : ℕ) → Option OldSlot
old_slot_of program words t p = old_slot_in (words (Slot t (p % (thread_def program t).queue)))

-- it is a full word of this position
abbrev pub is_old_full_of : (p : ℕ) → Option OldSlot → Bool
is_old_full_of p (Some (Full q source reading value)) = q == p
is_old_full_of p _ = false

-- the source is one of the thread's
abbrev pub feeds : Program → (t i : ℕ) → Bool
feeds program t i = nat_lt i (length program.sources) && (source_thread program i == t)

-- its event, where it is a full word of this position from a source of the thread
abbrev pub old_event_in : Program → (t p : ℕ) → Option OldSlot → Option OldEvent
old_event_in program t p (Some (Full q source reading value)) =
    if (q == p) && feeds program t source.0 then Some (record { source = source; reading = reading; value = value }) else None
old_event_in program t p _ = None

-- the events of a queue from a position on, so many at most, up to the first slot that holds none
abbrev pub old_events_from : Program → Memory → (t p most : ℕ) → List OldEvent
old_events_from program words t p zero = []
old_events_from program words t p (suc most) =
    elim (old_event_in program t p (old_slot_of program words t p)) [ None ↦ [] | Some e ↦ e ∷ old_events_from program words t (p + 1) most ]

-- the last event that was finished is still held: there is one, and its slot has a full word of its position
abbrev pub old_finished : Program → Memory → (t : ℕ) → Bool
old_finished program words t =
    nat_lt 0 (committed words t header.finished)
    && is_old_full_of (committed words t header.finished - 1) (old_slot_of program words t (committed words t header.finished - 1))

-- so it isn't counted as released
abbrev pub old_released : Program → Memory → (t : ℕ) → ℕ
old_released program words t = committed words t header.finished - flag (old_finished program words t)

-- the events that stand from there on are held
abbrev pub old_held : Program → Memory → (t : ℕ) → List OldEvent
old_held program words t = old_events_from program words t (old_released program words t) (thread_def program t).queue

-- the number of events that the queue has accepted
abbrev pub old_published : Program → Memory → (t : ℕ) → ℕ
old_published program words t = old_released program words t + length (old_held program words t)

-- the events that the queue of a source holds
abbrev pub old_held_for : Program → Memory → (i : ℕ) → List OldEvent
old_held_for program words i = old_held program words (source_thread program i)

-- what stands for an event that isn't there
abbrev pub no_old_event : OldEvent
no_old_event = record { source = record { 0 = 0 }; reading = 0; value = 0 }

-- one of the held events
abbrev pub old_event_at : List OldEvent → (k : ℕ) → OldEvent
old_event_at held k = slice_index_or held k no_old_event

-- the event is of source i
abbrev pub is_of : (i : ℕ) → OldEvent → Bool
is_of i e = e.source.0 == i

-- how many of these events are of source i
abbrev pub own_old : (i : ℕ) → List OldEvent → ℕ
own_old i [] = 0
own_old i (e ∷ held) = flag (is_of i e) + own_old i held

-- one more than the number of an event's reading; 0 where the event isn't of source i
abbrev pub after_event : (i : ℕ) → OldEvent → ℕ
after_event i e = if is_of i e then e.reading + 1 else 0

-- the greatest of these numbers
abbrev pub after_held : (i : ℕ) → List OldEvent → ℕ
after_held i [] = 0
after_held i (e ∷ held) = max (after_event i e) (after_held i held)

-- The next reading of a source: the greatest of SRC, which is the number of the next one, of ACK, which is one more than the last that was acknowledged,
-- and of one more than each that is held.
abbrev pub old_next : Program → Memory → (i : ℕ) → ℕ
old_next program words i = max (max (words (Src i)) (words (Ack i))) (after_held i (old_held_for program words i))

-- the word of an event's origin, which has the number of the reading where today's has the count
abbrev pub old_origin_word : OldEvent → ℕ
old_origin_word e = origin_word (origins.Source e.source e.reading)
