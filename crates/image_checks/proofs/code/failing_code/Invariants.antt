use Rattle.image_checks.specs.Board.{board}
use Rattle.image_checks.specs.Failing.{HoldsBelow, IsTaskCode}
use Rattle.image_checks.proofs.code.failing_code.Given as goal

abbrev pub invariant-loop-x : goal.invariant-loop-x
invariant-loop-x l = HoldsBelow (IsTaskCode l.plan.accepted (board l.plan.accepted l.words)) l.x
