use Rattle.std.proofs.Common.{◌≡◌}
use Rattle.fram_words.specs.Shape.{memory_of}
use Rattle.ink_layout.specs.Shape.{shape_of}
use Rattle.cut_sweep.specs.kept.Told.{told_row}
use Rattle.cut_sweep.proofs.told.told_row.Given as goal

abbrev pub invariant-loop-t : goal.invariant-loop-t
invariant-loop-t l = l.row ≡ told_row l.plan.accepted (memory_of (shape_of l.plan.accepted) l.words) l.cut l.t
