use Rattle.image_checks.specs.Board.{board}
use Rattle.image_checks.specs.Failing.{HoldsBelow}
use Rattle.old_image.specs.Failing.{IsOldBlock}
use Rattle.old_image.proofs.blocks.failing_old_block.Given as goal

abbrev pub invariant-loop-t : goal.invariant-loop-t
invariant-loop-t l = HoldsBelow (IsOldBlock l.plan.accepted (board l.plan.accepted l.words)) l.t
