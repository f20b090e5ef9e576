-- The law of how long a service takes, from the lemma on each of its accesses.
use Rattle.task_run.proofs.Bounded.{every_service_ends}
use Rattle.task_run.proofs.laws.services_end.Goals as goal

pub returns : goal.returns
returns c = record { ends = every_service_ends }
