use Rattle.image_checks.specs.Board.{board}
use Rattle.image_checks.specs.Failing.{HoldsBelow}
use Rattle.never_cut.specs.Image.{IsCommitWord}
use Rattle.image_checks.proofs.code.failing_commit_word.Given as goal

abbrev pub invariant-loop-t : goal.invariant-loop-t
invariant-loop-t l = HoldsBelow (IsCommitWord l.plan.accepted (board l.plan.accepted l.words)) l.t
