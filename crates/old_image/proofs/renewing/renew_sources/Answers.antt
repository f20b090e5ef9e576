use Rattle.old_image.proofs.Common.{refl, ◌∙◌, Memory}
use Rattle.image_checks.specs.Board.{board}
use Rattle.old_image.proofs.Stages.{sources_more}
use Rattle.old_image.proofs.renewing.renew_sources.Goals as goal

pub loop-i-preserved : goal.loop-i-preserved
loop-i-preserved c = record {
  renewed =
      sources_more c.args.plan.now.accepted (board c.args.plan.now.accepted c.args.words.now) (board c.args.plan.now.accepted c.args.new.now) c.loop-i.i c.renewed_src-src.result 0
      (board c.args.plan.now.accepted c.loop-i.new) (board c.args.plan.now.accepted c.put.new.new) (board c.args.plan.now.accepted c.put-in-loop-i.new.new)
      c.loop-i.invariant.renewed c.renewed_src-src.ensures refl c.put.ensures c.put-in-loop-i.ensures;
  size = c.put-in-loop-i.auto.new ∙ (c.put.auto.new ∙ c.loop-i.invariant.size);
}
