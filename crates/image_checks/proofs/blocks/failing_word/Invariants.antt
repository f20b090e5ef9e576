use Rattle.image_checks.specs.Board.{board}
use Rattle.image_checks.specs.Failing.{HoldsBelow}
use Rattle.never_cut.specs.Image.{IsBlockWord}
use Rattle.image_checks.proofs.blocks.failing_word.Given as goal

abbrev pub invariant-loop-word : goal.invariant-loop-word
invariant-loop-word l = HoldsBelow (IsBlockWord l.plan.accepted (board l.plan.accepted l.words) l.thread.0) l.word
