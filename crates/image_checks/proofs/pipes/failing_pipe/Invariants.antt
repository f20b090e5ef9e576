use Rattle.image_checks.specs.Board.{board}
use Rattle.image_checks.specs.Failing.{HoldsBelow}
use Rattle.never_cut.specs.Image.{IsPipeRight}
use Rattle.image_checks.proofs.pipes.failing_pipe.Given as goal

abbrev pub invariant-loop-q : goal.invariant-loop-q
invariant-loop-q l = HoldsBelow (IsPipeRight l.plan.accepted (board l.plan.accepted l.words)) l.q
