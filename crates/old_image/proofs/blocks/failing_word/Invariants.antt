use Rattle.image_checks.specs.Board.{board}
use Rattle.image_checks.specs.Failing.{HoldsBelow}
use Rattle.old_image.specs.Image.{IsOldBlockWord}
use Rattle.old_image.proofs.blocks.failing_word.Given as goal

abbrev pub invariant-loop-word : goal.invariant-loop-word
invariant-loop-word l = HoldsBelow (IsOldBlockWord l.plan.accepted (board l.plan.accepted l.words) l.thread.0) l.word
