use Rattle.std.proofs.Common.{◌≡◌, ap, length, below_more, arith}
use Rattle.task_isa.specs.declared.program.Program.{Program}
use Rattle.image_checks.proofs.sources.failing_source.Goals as goal

pub loop-i-preserved : goal.loop-i-preserved
loop-i-preserved c = below_more _ _ c.loop-i.invariant c.in_default.ensures.none

pub returns-clause-none : goal.returns-clause-none
returns-clause-none c =
    let same : length c.program.result.now.sources ≡ length c.args.plan.now.accepted.sources = ap (λ (p : Program). length p.sources) c.program.ensures.same in
    let all = c.len-i-end.ensures in λ n lt. c.loop-i.invariant n (omega arith)
