use Rattle.image_checks.specs.Board.{board}
use Rattle.image_checks.specs.kept.Queues.{AreUnfinishedBefore}
use Rattle.image_checks.proofs.queues.are_unfinished_before.Given as goal

abbrev pub invariant-loop-u : goal.invariant-loop-u
invariant-loop-u l = AreUnfinishedBefore l.plan.accepted (board l.plan.accepted l.words) l.u
