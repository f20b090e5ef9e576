use Rattle.old_image.proofs.Common.{◌≡◌, ap, length, arith, Program}
use Rattle.std.proofs.Common.{below_more}
use Rattle.old_image.proofs.worn.has_worn_pipe.Goals as goal

pub loop-q-preserved : goal.loop-q-preserved
loop-q-preserved c = below_more _ _ c.loop-q.invariant c.if-is_worn_pipe.ensures

pub returns : goal.returns
returns c =
    let same : length c.program.result.now.pipes ≡ length c.args.plan.now.accepted.pipes = ap (λ (p : Program). length p.pipes) c.program.ensures.same in
    let all = c.len-q-end.ensures in λ n lt. c.loop-q.invariant n (omega arith)
