use Rattle.std.proofs.Common.{◌≡◌, ap, length, arith}
use Rattle.task_isa.specs.declared.program.Program.{Program}
use Rattle.image_checks.specs.Failing.{CodeFails}
use Rattle.image_checks.proofs.code.failing_code.Goals as goal

pub returns-in-Some-clause-first : goal.returns-in-Some-clause-first
returns-in-Some-clause-first c =
    let same : length c.program.result.now.tasks ≡ length c.args.plan.now.accepted.tasks = ap (λ (p : Program). length p.tasks) c.program.ensures.same in
    let all = c.len-x-end.ensures in
    record { part = c.loop-x.x; inside = omega arith; before = c.loop-x.invariant; fault = CodeFails c.in-Some.offset c.in-Some.ensures }
