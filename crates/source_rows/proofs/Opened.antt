-- The one source of a queue.
use Rattle.std.proofs.Common.{◌≡◌, ◌≤◌, ◌<◌, ℕ, List, [], ◌∷◌, ◌∙◌, length, map, sym, ap, arith, subst, get_or}
use Rattle.ink_base.specs.declared.ids.ThreadId.{ThreadId}
use Rattle.ink_base.specs.declared.limits.TheConstants as limits
use Rattle.push_core.specs.declared.port.Port.{Port}
use Rattle.push_core.specs.Table.{IsPort}
use Rattle.event_queue.specs.declared.set.QueueSet.{QueueSet}
use Rattle.event_queue.specs.declared.seat.SourceSeat.{SourceSeat}
use Rattle.event_queue.specs.declared.view.Shape.{Shape}
use Rattle.event_queue.specs.Seats.{AreNewSources, IsNewSource, IsOfShape, view}
use Rattle.event_queue.specs.Views.{lay_of, places_of, queue_of}
use Rattle.event_queue.proofs.Basics.{at_get}
use Rattle.irq_source.specs.Acting.{IsPortOf}

-- the port of source 0 at a queue of so many places
abbrev pub port_at : ℕ → Port
port_at places = record { source = record { 0 = 0 }; queue = record { tail = 0; slots = 1; places = places }; ack = 33; src = 35 }

-- a queue has one source
abbrev pub HasOneSource : Shape → ℕ → Type 0
HasOneSource shape places = (shape.places.items ≡ places ∷ []) × (shape.sources.items ≡ record { 0 = 0 } ∷ [])

-- the first seat is that of source 0
pub first_seat : (set : QueueSet) (seats : List SourceSeat) (number : ℕ) (s : SourceSeat) → AreNewSources set seats → length seats ≡ number → number ≡ 1 → s ≡ get_or seats 0 s → IsNewSource set 0 s
first_seat set seats number s new count one here = subst (IsNewSource set 0) (sym here) (new 0 (get_or seats 0 s) (at_get seats 0 s (omega (arith, count, one))))

-- the port is right
pub is_port : (places : ℕ) → 0 < places → places ≤ limits.QUEUE_PLACES → IsPort (port_at places)
is_port places pos most = record { source = omega arith; some = pos; no_more = most; slots = omega (arith, most) }

-- it is that of the seat
pub is_port_of : (set : QueueSet) (shape : Shape) (places : ℕ) (seat : SourceSeat) → IsOfShape set shape → HasOneSource shape places → IsNewSource set 0 seat → IsPortOf (port_at places) seat
is_port_of set shape places seat same one new =
    let lay : (view seat).lay ≡ record { queues = places ∷ []; sources = 0 ∷ [] } = new.of.1 ∙ ap lay_of same ∙ (λ j. record { queues = one.0 j; sources = map (λ (t : ThreadId). t.0) (one.1 j) }) in
    record {
      source = sym (ap (λ (n : ℕ). record { 0 = n }) new.source);
      ring = λ j. places_of (lay j) (queue_of (lay j) (new.source j));
    }
