use Rattle.std.proofs.Common.{◌≡◌, ap, length, arith, below_more}
use Rattle.task_isa.specs.declared.program.Program.{Program}
use Rattle.image_checks.specs.Failing.{LogFails}
use Rattle.image_checks.proofs.logs.failing_output_word.Goals as goal

pub failing_output-requires-clause-fit : goal.failing_output-requires-clause-fit
failing_output-requires-clause-fit c = c.requires.fit

pub returns-in-Some-clause-first : goal.returns-in-Some-clause-first
returns-in-Some-clause-first c =
    let same : length c.program.result.now.threads ≡ length c.args.plan.now.accepted.threads = ap (λ (p : Program). length p.threads) c.program.ensures.same in
    let all = c.len-t-end.ensures in
    record { part = c.loop-t.t; inside = omega arith; before = c.loop-t.invariant; fault = LogFails c.in-Some.index c.in-Some.ensures }

pub loop-t-preserved : goal.loop-t-preserved
loop-t-preserved c = below_more _ _ c.loop-t.invariant c.in_default.ensures
