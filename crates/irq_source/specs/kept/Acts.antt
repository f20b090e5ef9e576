-- A source that is about to make its next access, and one that has made it.
use Rattle.std.specs.Prelude.{◌≡◌, ℕ, ◌+◌, ◌≤◌, List, length}
use Rattle.push_core.specs.declared.port.Port.{Port}
use Rattle.push_core.specs.declared.point.Point.TheVariants as points
use Rattle.push_core.specs.declared.row.Row.{Row}
use Rattle.push_core.specs.Table.{IsFew, IsLeft, IsAnswer, point_of, take_of}
use Rattle.event_queue.specs.declared.set.QueueSet.{QueueSet}
use Rattle.event_queue.specs.declared.seat.SourceSeat.{SourceSeat}
use Rattle.event_queue.specs.Views.{calls_of}
use Rattle.event_queue.specs.Seats.{view, IsSeatOf}
use Rattle.irq_source.specs.Acting.{IsPortOf}
use Rattle.irq_source.specs.Known.{known, Added}
use Rattle.irq_source.specs.Rows.{Finds, tail_in}
use Rattle.irq_source.specs.kept.Stands.{Stands}
use Rattle.irq_source.specs.kept.Paces.{PacesOne}

-- the source of a seat stands at a row that has an access left
pub record IsReady (set : QueueSet) (port : Port) (readings : List ℕ) (row : Row) (src : ℕ) (s : SourceSeat) : Type 0 where
  pub of : IsSeatOf set s
  pub port_is : IsPortOf port s
  pub few : IsFew readings
  pub left : IsLeft (length readings) row
  pub stands : Stands port (length readings) src (known (view s) s.source.0) row

-- its access found this word, and it stands at the row that follows; a refusal lies a turn above a position that was not known to be released
pub record HasMade (set : QueueSet) (port : Port) (readings : List ℕ) (row : Row) (src : ℕ) (old new : SourceSeat) (word src' : ℕ) : Type 0 where
  pub of : IsSeatOf set new
  pub port_is : IsPortOf port new
  pub found : Finds port readings row.accepted row.next src row.stage word (calls_of (view old)) src' (calls_of (view new))
  pub answer : IsAnswer (length readings) row.stage word
  pub refuses : point_of port.queue.places row.stage word ≡ points.Refused → (known (view old) old.source.0).gone + port.queue.places ≤ tail_in row.stage
  pub added : Added (known (view old) old.source.0) (known (view new) new.source.0)
  pub paces : PacesOne port.queue.places row.stage (take_of port (length readings) row word).stage src src' (known (view old) old.source.0) (known (view new) new.source.0)
  pub stands : Stands port (length readings) src' (known (view new) new.source.0) (take_of port (length readings) row word)
