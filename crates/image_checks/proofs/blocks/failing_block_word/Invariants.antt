use Rattle.image_checks.specs.Board.{board}
use Rattle.image_checks.specs.Failing.{HoldsBelow, IsBlock}
use Rattle.image_checks.proofs.blocks.failing_block_word.Given as goal

abbrev pub invariant-loop-t : goal.invariant-loop-t
invariant-loop-t l = HoldsBelow (IsBlock l.plan.accepted (board l.plan.accepted l.words)) l.t
