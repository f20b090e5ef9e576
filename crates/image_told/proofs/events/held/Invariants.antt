use Rattle.std.proofs.Common.{◌≡◌, take}
use Rattle.fram_words.specs.Shape.{memory_of}
use Rattle.ink_layout.specs.Shape.{shape_of}
use Rattle.never_cut.specs.ReadOff.{told_held}
use Rattle.image_told.proofs.events.held.Given as goal

abbrev pub invariant-loop-place : goal.invariant-loop-place
invariant-loop-place l = l.events.items ≡ take l.place (told_held l.plan.accepted (memory_of (shape_of l.plan.accepted) l.words) l.thread.0)
