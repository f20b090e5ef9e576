use Rattle.old_image.proofs.Common.{◌≡◌, length}
use Rattle.ink_layout.specs.Shape.{shape_of, words_of}
use Rattle.image_checks.specs.Board.{board}
use Rattle.old_image.specs.kept.Stages.{QueuesRenewed}
use Rattle.old_image.proofs.renewing.renew_queues.Given as goal

abbrev pub invariant-loop-t : goal.invariant-loop-t
invariant-loop-t l = record {
  renewed : QueuesRenewed l.plan.accepted (board l.plan.accepted l.words) (board l.plan.accepted l.fn.new) (board l.plan.accepted l.new) l.t;
  size : length l.new ≡ words_of (shape_of l.plan.accepted);
}
