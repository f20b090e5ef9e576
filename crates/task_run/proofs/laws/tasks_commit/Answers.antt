-- The law of a task, from the lemma on each of its accesses.
use Rattle.task_run.proofs.Begins.{every_pick}
use Rattle.task_run.proofs.Keeps.{every_task_commits}
use Rattle.task_run.proofs.Outlasts.{every_task_outlasts}
use Rattle.task_run.proofs.Ranges.{every_task_fits}
use Rattle.task_run.proofs.laws.tasks_commit.Goals as goal

pub returns : goal.returns
returns c = record { begins = every_pick; commits = every_task_commits; outlasts = every_task_outlasts; fits = every_task_fits }
