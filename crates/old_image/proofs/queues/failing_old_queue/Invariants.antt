use Rattle.image_checks.specs.Board.{board}
use Rattle.image_checks.specs.Failing.{HoldsBelow}
use Rattle.old_image.specs.Image.{IsOldQueueRight}
use Rattle.old_image.proofs.queues.failing_old_queue.Given as goal

abbrev pub invariant-loop-t : goal.invariant-loop-t
invariant-loop-t l = HoldsBelow (IsOldQueueRight l.plan.accepted (board l.plan.accepted l.words)) l.t
