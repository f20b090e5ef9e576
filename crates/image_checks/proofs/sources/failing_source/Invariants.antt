use Rattle.never_cut.specs.Image.{IsSourceRight}
use Rattle.image_checks.specs.Board.{board}
use Rattle.image_checks.specs.Failing.{HoldsBelow}
use Rattle.image_checks.proofs.sources.failing_source.Given as goal

abbrev pub invariant-loop-i : goal.invariant-loop-i
invariant-loop-i l = HoldsBelow (IsSourceRight l.plan.accepted (board l.plan.accepted l.words)) l.i
