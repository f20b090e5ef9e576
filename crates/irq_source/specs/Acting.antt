-- A source's value.
use Rattle.std.specs.Prelude.{◌≡◌, ℕ, ◌/◌, ◌%◌, ◌^◌, List, [], length}
use Rattle.push_core.specs.declared.port.Port.{Port}
use Rattle.push_core.specs.declared.pusher.Pusher.{Pusher}
use Rattle.push_core.specs.Table.{first_row}
use Rattle.event_queue.specs.declared.seat.SourceSeat.{SourceSeat}
use Rattle.event_queue.specs.Calls.{Knows}
use Rattle.event_queue.specs.Views.{calls_of}
use Rattle.event_queue.specs.Seats.{view, ring_of}
use Rattle.irq_source.specs.Known.{known, SrcKept, MineKept}
use Rattle.irq_source.specs.Account.{Listed, Accounts}
use Rattle.irq_source.specs.Rows.{Place}

-- a source with its readings, in so many charges, of which so many have begun
pub record Acting : Type 0 where
  pub port : Port
  pub readings : List ℕ
  pub charges : ℕ
  pub begun : ℕ
  pub seat : SourceSeat
  pub place : Place

-- the value of an actor
abbrev pub acting : Pusher → ℕ → SourceSeat → List ℕ → Listed → (begun charges : ℕ) → Acting
acting pusher src seat readings lists begun charges = record {
  port = pusher.port;
  readings = readings;
  charges = charges;
  begun = begun;
  seat = seat;
  place = record { row = pusher.row; src = src; calls = calls_of (view seat); accepted = lists.accepted; refused = lists.refused };
}

-- what its seat knows
abbrev pub knows : Acting → Knows
knows a = known (view a.seat) a.seat.source.0

-- the same source with the same readings and charges
pub record IsSame (old new : Acting) : Type 0 where
  pub port : new.port ≡ old.port
  pub readings : new.readings ≡ old.readings
  pub charges : new.charges ≡ old.charges

-- the port is that of the seat's source
pub record IsPortOf (port : Port) (s : SourceSeat) : Type 0 where
  pub source : port.source ≡ s.source
  pub ring : ring_of s ≡ port.queue.places

-- what holds of a source's port, its lists, SRC and its publications between any two accesses
pub record IsAccounted (a : Acting) : Type 0 where
  pub port : IsPortOf a.port a.seat
  pub lists : Accounts a.readings a.port.queue.places a.begun a.place.src (knows a) a.place.accepted a.place.refused
  pub src : SrcKept (length a.readings) (a.place.src % 2 ^ 32) (a.place.src / 2 ^ 32) (knows a)
  pub mine : MineKept a.port.queue.places (knows a)

-- before the first charge
abbrev pub first_place : Place
first_place = record { row = first_row; src = 0; calls = []; accepted = []; refused = [] }

-- after a cut: SRC, the calls and the lists stay
abbrev pub rebooted : Place → Place
rebooted p = record p { row = first_row }
