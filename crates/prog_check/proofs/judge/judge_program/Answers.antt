-- Neither step found a fault, so the program is accepted.
use Rattle.prog_check.proofs.Common.{◌≡◌, refl, None}
use Rattle.prog_check.specs.Faults.{first_fault}
use Rattle.prog_check.proofs.Sound.{accepted_of}
use Rattle.prog_check.proofs.judge.judge_program.Goals as goal

pub returns-clause-accepted : goal.returns-clause-accepted
unfolding first_fault
returns-clause-accepted c =
    let none : first_fault c.args.program.now c.args.lines.now ≡ None = rw (← c.in_ok-judge_limits.ensures.fault, ← c.in_ok-judge_meaning.ensures) refl in
    accepted_of c.args.program.now c.args.lines.now none c.in_ok-judge_limits.ensures.priorities c.in_ok-judge_limits.ensures.fits
