-- The law of what remains, from the lemmas.
use Rattle.task_run.proofs.Counting.{every_access_counts, every_count_outlasts}
use Rattle.task_run.proofs.InRange.{every_range_goes_on}
use Rattle.task_run.proofs.LastAccesses.{every_last_commits, every_commit_is_last}
use Rattle.task_run.proofs.Remains.{every_pick_costs, every_service_goes_on}
use Rattle.task_run.proofs.laws.services_cost.Goals as goal

pub returns : goal.returns
returns c = record { costs = every_pick_costs; counts = every_access_counts; last = every_last_commits; only = every_commit_is_last; outlasts = every_count_outlasts; goes_on = every_service_goes_on; in_range = every_range_goes_on }
