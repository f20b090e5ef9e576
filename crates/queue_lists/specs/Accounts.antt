-- What a closed set of queues and the lists of its sources tell of the events of each queue.
use Rattle.std.specs.Prelude.{◌≡◌, ℕ, ◌+◌, ◌-◌, ◌/◌, ◌%◌, ◌^◌, ◌<◌, Bool, true, false, List, length, map, drop}
use Rattle.ink_base.specs.declared.accept.Accept.{Accept}
use Rattle.ink_base.specs.declared.event.Event.{Event}
use Rattle.push_core.specs.Queue.{Queue, Source, KeepsNumbers, StandsSource}
use Rattle.event_queue.specs.declared.view.Lay.{Lay}
use Rattle.event_queue.specs.declared.view.View.{View}
use Rattle.event_queue.specs.declared.seat.SourceSeat.{SourceSeat}
use Rattle.event_queue.specs.Calls.{Knows, mine_of, released_of, acked_of, knows_of}
use Rattle.event_queue.specs.Finishes.{Finished}
use Rattle.event_queue.specs.Places.{Ack, word_at}
use Rattle.event_queue.specs.Views.{queue_of, places_of}
use Rattle.irq_source.specs.Known.{SrcKept}
use Rattle.live_account.specs.Events.{events_of, number_of}
use Rattle.live_account.specs.Matches.{AreOf, event_of}

-- The events of what was accepted are those of the queue's entries, their counts among them.
abbrev pub EveryListTells : Type 0
EveryListTells = (lay : Lay) (words : List ℕ) (kernel clock : View) (seats : List SourceSeat) (f : Finished lay words kernel clock seats) (t : ℕ) (accepts : List Accept) →
    AreOf (f.entries t) accepts → events_of accepts ≡ map event_of (f.entries t)

-- A source's events in its queue are as many as its publications.
abbrev pub EveryNumberTells : Type 0
EveryNumberTells = (lay : Lay) (words : List ℕ) (kernel clock : View) (seats : List SourceSeat) (f : Finished lay words kernel clock seats) (i : ℕ) (accepts : List Accept) →
    AreOf (f.entries (queue_of lay i)) accepts → number_of i accepts ≡ length (mine_of (f.calls.source i))

-- what a source with this SRC has accepted and settled, by the number of its events
abbrev pub source_with : (src number : ℕ) → Source
source_with src number = record { next = src / 2 ^ 32 + (number - src % 2 ^ 32); accepted = number; refused = false }

-- the queue that holds the events without those that were released
abbrev pub queue_with : List Event → (released : ℕ) → Bool → Queue
queue_with events released finished = record { held = drop released events; finished = finished; released = released }

-- what is kept of a source between any two accesses, by its SRC and its calls
abbrev pub KeepsSrc : (readings src : ℕ) → Knows → Type 0
KeepsSrc readings src s = SrcKept readings (src % 2 ^ 32) (src / 2 ^ 32) s

-- SRC, ACK and the events that its queue holds tell the numbers of a source, whether or not the first of them is finished, if only an acknowledged one is.
pub record TellsNumbers (i src ack : ℕ) (events : List Event) (released : ℕ) (acked : Bool) (number : ℕ) : Type 0 where
  pub numbers : (finished : Bool) → (acked ≡ true → finished ≡ true) → KeepsNumbers i src ack (queue_with events released finished) (source_with src number)
  pub stands : StandsSource i src ack (drop released events) (source_with src number)

-- so it is of each source
abbrev pub EverySourceTells : Type 0
EverySourceTells = (lay : Lay) (words : List ℕ) (kernel clock : View) (seats : List SourceSeat) (f : Finished lay words kernel clock seats) (i readings src : ℕ) → i < length lay.sources →
    KeepsSrc readings src (knows_of (places_of lay (queue_of lay i)) (f.calls.source i)) →
    TellsNumbers i src (word_at lay words (Ack i)) (map event_of (f.entries (queue_of lay i))) (released_of (queue_of lay i) f.calls.kernel) (acked_of (queue_of lay i) f.calls.kernel) (length (mine_of (f.calls.source i)))
