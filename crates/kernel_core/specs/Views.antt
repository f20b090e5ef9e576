-- The queues and sources of a state, as the sources' side sees them.
use Rattle.std.specs.Prelude.{ℕ}
use Rattle.fram_words.specs.Places.{Memory}
use Rattle.push_core.specs.declared.row.Row.{Row}
use Rattle.source_laws.specs.Model as sources
use Rattle.source_laws.specs.Stands.{State}
use Rattle.never_cut.specs.declared.model.Model.{Model}
use Rattle.never_cut.specs.State.{thread_of, queue_of}
use Rattle.never_cut.specs.Sound.{sources_in}

-- the queues of a state's threads, and its sources
abbrev pub sides_of : Model → sources.Model
sides_of m = record { queue = λ t. queue_of (thread_of m t); source = sources_in m }

-- words and a state, with the rows of the sources
abbrev pub seen : Memory → Model → (ℕ → Row) → State
seen words m rows = record { word = words; model = sides_of m; row = rows }
