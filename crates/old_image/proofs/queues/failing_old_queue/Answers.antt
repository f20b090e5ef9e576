use Rattle.std.proofs.Common.{◌≡◌, ap, length, below_more, arith}
use Rattle.task_isa.specs.declared.program.Program.{Program}
use Rattle.old_image.proofs.queues.failing_old_queue.Goals as goal

pub loop-t-preserved : goal.loop-t-preserved
loop-t-preserved c = below_more _ _ c.loop-t.invariant c.in_default.ensures.none

pub returns-clause-none : goal.returns-clause-none
returns-clause-none c =
    let same : length c.program.result.now.threads ≡ length c.args.plan.now.accepted.threads = ap (λ (p : Program). length p.threads) c.program.ensures.same in
    let all = c.len-t-end.ensures in λ n lt. c.loop-t.invariant n (omega arith)
