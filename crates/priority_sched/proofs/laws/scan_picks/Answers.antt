-- The law, by the lemmas on each row.
use Rattle.priority_sched.proofs.Scans.{scan_begins, scan_keeps}
use Rattle.priority_sched.proofs.Drifts.{scan_drifts}
use Rattle.priority_sched.proofs.Ends.{scan_ends}
use Rattle.priority_sched.proofs.Ranges.{scan_in_range}
use Rattle.priority_sched.proofs.laws.scan_picks.Goals as goal

pub returns-clause-begins : goal.returns-clause-begins
returns-clause-begins c = scan_begins

pub returns-clause-keeps : goal.returns-clause-keeps
returns-clause-keeps c = λ program readings words m scan b few h.
    (scan_in_range program readings words m scan b few h, scan_keeps program readings words m scan b few h)

pub returns-clause-drifts : goal.returns-clause-drifts
returns-clause-drifts c = scan_drifts

pub returns-clause-ends : goal.returns-clause-ends
returns-clause-ends c = scan_ends
