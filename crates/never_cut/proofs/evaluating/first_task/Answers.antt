use Rattle.never_cut.proofs.Common.{◌≡◌, rules, arith, first_task}
use Rattle.never_cut.proofs.evaluating.first_task.Goals as goal

pub returns-clause-there : goal.returns-clause-there
returns-clause-there c =
    let is : c.unwrap_or.result ≡ first_task c.args.program.now c.args.t = search rules in
    let there = c.requires.accepted.served c.args.t c.requires.thread in
    omega (arith, is, there)
