-- The registers after a word in its range, by the lemma on each row.
use Rattle.priority_sched.proofs.Alone.{scan_goes}
use Rattle.priority_sched.proofs.machine.ScanMachine.take.Goals as goal

pub returns-clause-reached : goal.returns-clause-reached
returns-clause-reached c = λ reached range.
    scan_goes c.args.plan.now.accepted c.args.self.now c.follow.new.self c.args.word c.program-program.ensures.accepted reached range c.follow.ensures.taken c.follow.ensures.row
