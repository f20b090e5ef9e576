use Rattle.image_checks.specs.Board.{board}
use Rattle.image_checks.specs.Failing.{HoldsBelow}
use Rattle.old_image.specs.Image.{IsOldSourceRight}
use Rattle.old_image.proofs.sources.failing_old_source.Given as goal

abbrev pub invariant-loop-i : goal.invariant-loop-i
invariant-loop-i l = HoldsBelow (IsOldSourceRight l.plan.accepted (board l.plan.accepted l.words)) l.i
