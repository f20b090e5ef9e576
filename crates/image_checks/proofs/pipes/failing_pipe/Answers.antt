use Rattle.std.proofs.Common.{◌≡◌, ap, length, arith, below_more}
use Rattle.task_isa.specs.declared.program.Program.{Program}
use Rattle.image_checks.proofs.pipes.failing_pipe.Goals as goal

pub returns-in-Some-clause-first : goal.returns-in-Some-clause-first
returns-in-Some-clause-first c =
    let same : length c.program.result.now.pipes ≡ length c.args.plan.now.accepted.pipes = ap (λ (p : Program). length p.pipes) c.program.ensures.same in
    let all = c.len-q-end.ensures in
    record { part = c.loop-q.q; inside = omega arith; before = c.loop-q.invariant; fault = c.in-Some.ensures.fault }

pub loop-q-preserved : goal.loop-q-preserved
loop-q-preserved c = below_more _ _ c.loop-q.invariant c.in_default.ensures.none
