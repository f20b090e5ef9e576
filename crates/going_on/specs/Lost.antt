-- What a cut loses of a state.
use Rattle.std.specs.Prelude.{false, map, None}
use Rattle.never_cut.specs.declared.model.Model.{Model}
use Rattle.never_cut.specs.declared.source_model.SourceModel.{SourceModel}

-- a source without the mark of a refused reading
abbrev pub unmarked : SourceModel → SourceModel
unmarked s = record s { refused = false }

-- a state without its scan and the marks of refused readings, which no word of the board tells
abbrev pub without_scan : Model → Model
without_scan m = record m { sources = map unmarked m.sources; scan = None }
