use Rattle.std.proofs.Common.{◌≡◌, take}
use Rattle.fram_words.specs.Shape.{memory_of}
use Rattle.ink_layout.specs.Shape.{shape_of}
use Rattle.never_cut.specs.Image.{held_for, own_events}
use Rattle.image_told.proofs.events.own_before.Given as goal

abbrev pub invariant-loop-k : goal.invariant-loop-k
invariant-loop-k l = l.own ≡ own_events l.source.0 (take l.k (held_for l.plan.accepted (memory_of (shape_of l.plan.accepted) l.words) l.source.0))
