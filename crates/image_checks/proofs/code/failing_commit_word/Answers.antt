use Rattle.std.proofs.Common.{◌≡◌, ap, length, arith}
use Rattle.task_isa.specs.declared.program.Program.{Program}
use Rattle.image_checks.specs.Failing.{CommitFails}
use Rattle.image_checks.proofs.Tests.{refused}
use Rattle.image_checks.proofs.code.failing_commit_word.Goals as goal

pub returns-then-not-is_commit_word-clause-first : goal.returns-then-not-is_commit_word-clause-first
returns-then-not-is_commit_word-clause-first c =
    let same : length c.program.result.now.threads ≡ length c.args.plan.now.accepted.threads = ap (λ (p : Program). length p.threads) c.program.ensures.same in
    let all = c.len-t-end.ensures in
    record { part = c.loop-t.t; inside = omega arith; before = c.loop-t.invariant; fault = CommitFails (refused c.if-not-is_commit_word.ensures) }
