use Rattle.queue_rows.proofs.Common.{◌≡◌, ◌++◌, firsts}
use Rattle.queue_rows.proofs.tests.opening.push_firsts.Given as goal

abbrev pub invariant-loop : goal.invariant-loop
invariant-loop l = l.threads.items ≡ l.initial.threads.items ++ firsts l.counter
