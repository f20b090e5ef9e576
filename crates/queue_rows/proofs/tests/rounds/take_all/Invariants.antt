use Rattle.queue_rows.proofs.Common.{◌≤◌, IsAt}
use Rattle.queue_rows.proofs.tests.rounds.take_all.Given as goal

abbrev pub invariant-loop : goal.invariant-loop
invariant-loop l = IsAt l.set l.position l.kernel × (l.position ≤ 64)
