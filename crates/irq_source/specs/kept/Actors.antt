-- What an actor keeps: its place in the table, its account, and room in its lists.
use Rattle.std.specs.Prelude.{ℕ, ◌+◌, ◌/◌, ◌^◌, ◌≤◌, List, length}
use Rattle.push_core.specs.declared.pusher.Pusher.{Pusher}
use Rattle.push_core.specs.declared.stage.Stage.{Stage}
use Rattle.push_core.specs.declared.stage.Stage.TheVariants.{StoreSkip}
use Rattle.push_core.specs.Table.{IsFew}
use Rattle.event_queue.specs.declared.seat.SourceSeat.{SourceSeat}
use Rattle.event_queue.specs.Seats.{view}
use Rattle.irq_source.specs.declared.lists.Declined.{Declined}
use Rattle.irq_source.specs.Acting.{IsPortOf}
use Rattle.irq_source.specs.Known.{known}
use Rattle.irq_source.specs.Account.{Listed, IsRefused, Accounts}
use Rattle.irq_source.specs.kept.Stands.{Stands}

-- before it is skipped, a reading is refused
abbrev pub SkipKept : Stage → (k : ℕ) → List Declined → Type 0
SkipKept StoreSkip k refused = IsRefused refused k
SkipKept stage k refused = Unit {0}

-- a refusal whose reading is not skipped yet
abbrev pub unskipped : Stage → ℕ
unskipped StoreSkip = 1
unskipped stage = 0

-- Each reading has a place among the published. Each refusal but the one at hand was followed by its skip or by a cut, so the refused
-- have room
pub record HasRoom (number src begun charges : ℕ) (stage : Stage) (lists : Listed) : Type 0 where
  pub accepted : number ≤ lists.accepted_room
  pub refused : number + charges ≤ lists.refused_room
  pub few : length lists.refused ≤ src / 2 ^ 32 + begun + unskipped stage
  pub charges_left : begun ≤ charges

-- what holds of an actor between two accesses
pub record IsActor (pusher : Pusher) (src : ℕ) (seat : SourceSeat) (readings : List ℕ) (lists : Listed) (begun charges : ℕ) : Type 0 where
  pub few : IsFew readings
  pub port_is : IsPortOf pusher.port seat
  pub stands : Stands pusher.port (length readings) src (known (view seat) seat.source.0) pusher.row
  pub account : Accounts readings pusher.port.queue.places begun src (known (view seat) seat.source.0) lists.accepted lists.refused
  pub skip : SkipKept pusher.row.stage pusher.row.next lists.refused
  pub room : HasRoom (length readings) src begun charges pusher.row.stage lists
