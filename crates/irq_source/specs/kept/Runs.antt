-- What an actor has done since a call of `run_charge` began.
use Rattle.std.specs.Prelude.{◌≤◌, ◌≡◌, ℕ, ◌-◌, ◌/◌, ◌^◌, length}
use Rattle.push_core.specs.Table.{first_row}
use Rattle.irq_source.specs.Acting.{Acting, IsAccounted, IsSame, knows}
use Rattle.irq_source.specs.Known.{Added, settled_of}
use Rattle.irq_source.specs.Rows.{Grows, Leads}
use Rattle.irq_source.specs.kept.Paces.{IsPaced}
use Rattle.irq_source.specs.kept.Stands.{Stands}

-- so many accesses; from a cut on it has its pace
pub record HasRun (old new : Acting) (steps : ℕ) : Type 0 where
  pub same : IsSame old new
  pub begun : new.begun ≡ old.begun
  pub leads : Leads old.port old.readings (old.begun - 1) steps old.place new.place
  pub added : Added (knows old) (knows new)
  pub settles : settled_of old.place.src (knows old) ≤ settled_of new.place.src (knows new)
  pub grows : Grows old.port.queue.places (knows old).gone (old.begun - 1) old.place new.place
  pub paced : old.place.row ≡ first_row → IsPaced old.port.queue.places steps (old.place.src / 2 ^ 32) new.place.row.stage new.place.src (knows new)
  pub account : IsAccounted new
  pub stands : Stands new.port (length new.readings) new.place.src (knows new) new.place.row
