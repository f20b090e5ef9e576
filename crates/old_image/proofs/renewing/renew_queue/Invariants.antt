use Rattle.old_image.proofs.Common.{◌≡◌, length}
use Rattle.ink_layout.specs.Shape.{shape_of, words_of}
use Rattle.image_checks.specs.Board.{board}
use Rattle.old_image.specs.kept.Stages.{SlotsRenewed}
use Rattle.old_image.proofs.renewing.renew_queue.Given as goal

abbrev pub invariant-loop-k : goal.invariant-loop-k
invariant-loop-k l = record {
  renewed : SlotsRenewed l.plan.accepted (board l.plan.accepted l.words) (board l.plan.accepted l.fn.new) (board l.plan.accepted l.new) l.thread.0 l.k;
  size : length l.new ≡ words_of (shape_of l.plan.accepted);
}
