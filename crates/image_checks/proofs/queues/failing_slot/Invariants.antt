use Rattle.never_cut.specs.Image.{IsSlotWord}
use Rattle.image_checks.specs.Board.{board}
use Rattle.image_checks.specs.Failing.{HoldsBelow}
use Rattle.image_checks.proofs.queues.failing_slot.Given as goal

abbrev pub invariant-loop-k : goal.invariant-loop-k
invariant-loop-k l = HoldsBelow (IsSlotWord l.plan.accepted (board l.plan.accepted l.words) l.thread.0) l.k
