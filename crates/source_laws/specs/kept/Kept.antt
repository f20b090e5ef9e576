-- What every access of every source, every release and every cut keeps.
use Rattle.std.specs.Prelude.{ℕ, length}
use Rattle.push_core.specs.Queue.{KeepsNumbers}
use Rattle.push_core.specs.declared.row.Row.{Row}
use Rattle.source_laws.specs.Model.{places_for, Board, Near}
use Rattle.source_laws.specs.Stands.{State, QueueKept, EventsKept, IsOrdered, near}
use Rattle.source_laws.specs.kept.Knows.{Knows}

-- the part of one source, at a row of its table
pub record SourceKept (i places readings : ℕ) (n : Near) (row : Row) : Type 0 where
  pub stands : KeepsNumbers i n.src n.ack n.queue n.source
  pub ordered : IsOrdered readings n.source
  pub knows : Knows i places readings n row

-- and in a state
abbrev pub SourcePart : Board → State → ℕ → Type 0
SourcePart board x i = SourceKept i (places_for board i) (length (board.readings i)) (near board x i) (x.row i)

-- the parts of all queues and of all sources
pub record Kept (board : Board) (x : State) : Type 0 where
  pub queues : (t : ℕ) → QueueKept board x t
  pub events : (t : ℕ) → EventsKept board x.model.queue x.model.source t
  pub sources : (i : ℕ) → SourcePart board x i
