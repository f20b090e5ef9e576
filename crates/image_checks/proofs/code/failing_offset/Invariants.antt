use Rattle.image_checks.specs.Board.{board}
use Rattle.image_checks.specs.Failing.{HoldsBelow}
use Rattle.never_cut.specs.Image.{IsCodeWord}
use Rattle.image_checks.proofs.code.failing_offset.Given as goal

abbrev pub invariant-loop-n : goal.invariant-loop-n
invariant-loop-n l = HoldsBelow (IsCodeWord l.plan.accepted (board l.plan.accepted l.words) l.task.0) l.n
