use Rattle.never_cut.proofs.Runnables.{is_runnable}
use Rattle.never_cut.proofs.replaying.Replaying.evaluate.Goals as goal

pub eval_task-requires-clause-runnable : goal.eval_task-requires-clause-runnable
eval_task-requires-clause-runnable c = is_runnable c.args.program.now c.task_at.result.0 c.requires.accepted c.task_at.ensures.there
