use Rattle.std.proofs.Common.{◌≤◌, length}
use Rattle.fram_words.specs.Shape.{memory_of}
use Rattle.ink_layout.specs.Shape.{shape_of}
use Rattle.never_cut.specs.ReadOff.{told_held}
use Rattle.image_told.proofs.events.held_count.Given as goal

abbrev pub invariant-loop-k : goal.invariant-loop-k
invariant-loop-k l = l.k ≤ length (told_held l.plan.accepted (memory_of (shape_of l.plan.accepted) l.words) l.thread.0)
