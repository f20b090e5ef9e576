-- The first registers of a pick, by the lemma.
use Rattle.task_run.proofs.Common.{rules, ◌≡◌, sym, subst, TaskMachine, begin, IsServiceOf}
use Rattle.task_run.specs.declared.ending.Ending.TheVariants.{Done}
use Rattle.task_run.proofs.Alone.{service_begins}
use Rattle.task_run.proofs.machine.TaskMachine.begin.Goals as goal

pub returns-clause-reached : goal.returns-clause-reached
returns-clause-reached c = λ program accepted own low.
    let made : TaskMachine =
    record { pick = c.args.pick; stamp = c.args.stamp; buffer = c.begin.result; ending = Done; execution = c.begin-2.result; phase = c.first_phase.result } in
    let is : made ≡ begin c.args.pick c.args.stamp = search rules in
    subst (IsServiceOf program) (sym is) (service_begins program c.args.pick c.args.stamp accepted own low)
