use Rattle.image_checks.specs.Board.{board}
use Rattle.image_checks.specs.Failing.{HoldsBelow}
use Rattle.old_image.specs.Image.{IsOldSlotWord}
use Rattle.old_image.proofs.queues.failing_slot.Given as goal

abbrev pub invariant-loop-k : goal.invariant-loop-k
invariant-loop-k l = HoldsBelow (IsOldSlotWord l.plan.accepted (board l.plan.accepted l.words) l.thread.0) l.k
