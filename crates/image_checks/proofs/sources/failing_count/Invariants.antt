use Rattle.never_cut.specs.Image.{IsCountWord}
use Rattle.image_checks.specs.Board.{board}
use Rattle.image_checks.specs.Failing.{HoldsBelow}
use Rattle.image_checks.proofs.sources.failing_count.Given as goal

abbrev pub invariant-loop-j : goal.invariant-loop-j
invariant-loop-j l = HoldsBelow (IsCountWord l.plan.accepted (board l.plan.accepted l.words) l.source.0) l.j
