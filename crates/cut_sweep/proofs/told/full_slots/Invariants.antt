use Rattle.std.proofs.Common.{◌≡◌}
use Rattle.fram_words.specs.Shape.{memory_of}
use Rattle.ink_layout.specs.Shape.{shape_of}
use Rattle.cut_sweep.specs.kept.Told.{sum_to, full_slot}
use Rattle.cut_sweep.proofs.told.full_slots.Given as goal

abbrev pub invariant-loop-index : goal.invariant-loop-index
invariant-loop-index l = l.full ≡ sum_to (full_slot (memory_of (shape_of l.plan.accepted) l.words) l.thread.0) l.index
