use Rattle.std.proofs.Common.{◌≡◌, take, false}
use Rattle.std.specs.List.{list_any}
use Rattle.fram_words.specs.Shape.{memory_of}
use Rattle.ink_layout.specs.Shape.{shape_of}
use Rattle.never_cut.specs.Image.{held_for}
use Rattle.never_cut.specs.ReadOff.{has_number}
use Rattle.image_told.proofs.source.holds_number.Given as goal

abbrev pub invariant-loop-k : goal.invariant-loop-k
invariant-loop-k l =
    list_any (has_number l.source.0 l.number) (take l.k (held_for l.plan.accepted (memory_of (shape_of l.plan.accepted) l.words) l.source.0)) ≡ false
