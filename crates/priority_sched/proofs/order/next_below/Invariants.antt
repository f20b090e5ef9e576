use Rattle.priority_sched.proofs.Common.{◌≡◌, ◌<◌, length, ForSome, next_among}
use Rattle.priority_sched.proofs.order.next_below.Given as goal

abbrev pub invariant-loop-n : goal.invariant-loop-n
invariant-loop-n l = record {
  best_is : l.best ≡ next_among l.program l.bound l.n;
  known : ForSome l.best (λ u. u.0 < length l.program.threads);
}
