use Rattle.never_cut.specs.Image.{IsQueueRight}
use Rattle.image_checks.specs.Board.{board}
use Rattle.image_checks.specs.Failing.{HoldsBelow}
use Rattle.image_checks.proofs.queues.failing_queue.Given as goal

abbrev pub invariant-loop-t : goal.invariant-loop-t
invariant-loop-t l = HoldsBelow (IsQueueRight l.plan.accepted (board l.plan.accepted l.words)) l.t
