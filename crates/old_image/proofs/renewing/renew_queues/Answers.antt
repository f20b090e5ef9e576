use Rattle.old_image.proofs.Common.{◌≡◌, ◌∙◌, length, ap, subst, arith, Program}
use Rattle.image_checks.specs.Board.{board}
use Rattle.old_image.specs.kept.Stages.{QueuesRenewed}
use Rattle.old_image.proofs.Stages.{queues_more}
use Rattle.old_image.proofs.renewing.renew_queues.Goals as goal

pub loop-t-preserved : goal.loop-t-preserved
loop-t-preserved c = record {
  renewed =
      queues_more c.args.plan.now.accepted (board c.args.plan.now.accepted c.args.words.now) (board c.args.plan.now.accepted c.args.new.now) c.loop-t.t
      (board c.args.plan.now.accepted c.loop-t.new) (board c.args.plan.now.accepted c.renew_queue.new.new) c.loop-t.invariant.renewed c.renew_queue.ensures;
  size = c.renew_queue.auto.new ∙ c.loop-t.invariant.size;
}

pub returns : goal.returns
returns c =
    let same : length c.program.result.now.threads ≡ length c.args.plan.now.accepted.threads = ap (λ (p : Program). length p.threads) c.program.ensures.same in
    let all : c.loop-t.t ≡ length c.args.plan.now.accepted.threads = omega (arith, c.len-t-end.ensures, c.loop-t-test.false, c.loop-t.auto.t-end) in
    subst (QueuesRenewed c.args.plan.now.accepted (board c.args.plan.now.accepted c.args.words.now) (board c.args.plan.now.accepted c.args.new.now) (board c.args.plan.now.accepted c.loop-t.new)) all
    c.loop-t.invariant.renewed
