use Rattle.old_image.proofs.Common.{◌≡◌, ap, length, arith, Program}
use Rattle.std.proofs.Common.{below_more}
use Rattle.old_image.proofs.worn.has_worn_thread.Goals as goal

pub loop-t-preserved : goal.loop-t-preserved
loop-t-preserved c = below_more _ _ c.loop-t.invariant c.if-is_worn_thread.ensures

pub returns : goal.returns
returns c =
    let same : length c.program.result.now.threads ≡ length c.args.plan.now.accepted.threads = ap (λ (p : Program). length p.threads) c.program.ensures.same in
    let all = c.len-t-end.ensures in λ n lt. c.loop-t.invariant n (omega arith)
