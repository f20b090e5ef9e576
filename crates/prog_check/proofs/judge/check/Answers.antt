-- A fault is answered of no program that is accepted.
use Rattle.prog_check.proofs.Common.{refl}
use Rattle.prog_check.proofs.Complete.{no_fault}
use Rattle.prog_check.proofs.judge.check.Goals as goal

pub returns-in-Ok-clause-exact : goal.returns-in-Ok-clause-exact
returns-in-Ok-clause-exact c = (λ ok. c.in-Ok.ensures.accepted, λ is. refl)

pub returns-in-Err-clause-exact : goal.returns-in-Err-clause-exact
returns-in-Err-clause-exact c = (λ ok. absurd (cc ok), λ is. absurd (cc (c.in-Err.ensures.fault, no_fault c.args.program c.args.lines.now is)))
