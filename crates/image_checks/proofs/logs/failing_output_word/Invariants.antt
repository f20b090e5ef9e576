use Rattle.image_checks.specs.Board.{board}
use Rattle.image_checks.specs.Failing.{HoldsBelow, IsLog}
use Rattle.image_checks.proofs.logs.failing_output_word.Given as goal

abbrev pub invariant-loop-t : goal.invariant-loop-t
invariant-loop-t l = HoldsBelow (IsLog l.plan.accepted (board l.plan.accepted l.words)) l.t
