use Rattle.image_checks.specs.Board.{board}
use Rattle.image_checks.specs.Failing.{HoldsBelow}
use Rattle.never_cut.specs.Image.{IsItemWord}
use Rattle.image_checks.proofs.pipes.failing_item.Given as goal

abbrev pub invariant-loop-item : goal.invariant-loop-item
invariant-loop-item l = HoldsBelow (IsItemWord l.plan.accepted (board l.plan.accepted l.words) l.pipe.0) l.item
