use Rattle.old_image.proofs.Common.{◌≡◌, length}
use Rattle.ink_layout.specs.Shape.{shape_of, words_of}
use Rattle.image_checks.specs.Board.{board}
use Rattle.old_image.specs.kept.Stages.{SourcesRenewed}
use Rattle.old_image.proofs.renewing.renew_sources.Given as goal

abbrev pub invariant-loop-i : goal.invariant-loop-i
invariant-loop-i l = record {
  renewed : SourcesRenewed l.plan.accepted (board l.plan.accepted l.words) (board l.plan.accepted l.fn.new) (board l.plan.accepted l.new) l.i;
  size : length l.new ≡ words_of (shape_of l.plan.accepted);
}
