-- The registers after a word in its range, by the lemma on each phase.
use Rattle.task_run.proofs.Common.{◌≡◌, subst, Program}
use Rattle.task_run.specs.Machine as machine
use Rattle.task_run.proofs.Alone.{service_goes}
use Rattle.task_run.proofs.machine.TaskMachine.take.Goals as goal

pub returns-clause-reached : goal.returns-clause-reached
returns-clause-reached c = λ reached range live.
    let is = subst (λ (z : Program). c.go_on.new.self ≡ machine.take z c.args.self.now c.args.word) c.program.ensures.same c.go_on.ensures in
    service_goes c.args.plan.now.accepted c.args.self.now c.go_on.new.self c.args.word c.program.ensures.accepted reached range is live
