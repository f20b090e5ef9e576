-- A load that no entry is noted for keeps what is known.
use Rattle.std.specs.Prelude.{None}
use Rattle.task_isa.specs.declared.program.Program.{Program}
use Rattle.fram_words.specs.Places.{Memory, Place, Load}
use Rattle.never_cut.specs.declared.model.Model.{Model}
use Rattle.never_cut.specs.Entries.{Readings}
use Rattle.never_cut.specs.kept.Steps.{Background, IsKept}

pub load_kept : (program : Program) (readings : Readings) (words : Memory) (m : Model) (p : Place) → Background program readings words m → IsKept program readings words m (Load p) None
load_kept program readings words m p b = record { legal = tt; allowed = tt; private = b.private; shared = b.shared }
