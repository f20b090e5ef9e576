-- The law of how long a scan takes, from the lemma on each of its accesses.
use Rattle.priority_sched.proofs.LeftFalls.{every_scan_ends}
use Rattle.priority_sched.proofs.laws.scans_end.Goals as goal

pub returns : goal.returns
returns c = record { ends = every_scan_ends }
