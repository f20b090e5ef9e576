-- A word in its range, by the lemma on each phase.
use Rattle.task_run.proofs.TaskWords.{task_word}
use Rattle.task_run.proofs.machine.TaskMachine.want.Goals as goal

pub returns-clause-range : goal.returns-clause-range
returns-clause-range c = λ word range.
    let r = c.args.self.now in
    task_word c.args.plan.now.accepted r.pick r.stamp r.buffer r.ending r.execution r.phase word c.program.ensures.accepted c.requires.phase range
