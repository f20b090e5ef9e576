use Rattle.std.proofs.Common.{◌≡◌, ◌+◌, length, vec_capacity}
use Rattle.queue_lists.proofs.gathers.add_places.Given as goal

-- so many places more
abbrev pub invariant-loop : goal.invariant-loop
invariant-loop l = record {
  events : length l.accepted.items ≡ length l.fn.accepted.items + l.counter;
  charges : length l.charges.items ≡ length l.fn.charges.items + l.counter;
  event_room : vec_capacity l.accepted ≡ vec_capacity l.fn.accepted;
  charge_room : vec_capacity l.charges ≡ vec_capacity l.fn.charges;
}
