use Rattle.std.proofs.Common.{◌≡◌, length, vec_capacity}
use Rattle.queue_lists.specs.Lists.{events_into}
use Rattle.queue_lists.proofs.gathers.empty_places.Given as goal

-- the places of the sources so far
abbrev pub invariant-loop-source : goal.invariant-loop-source
invariant-loop-source l = record {
  events : length l.accepted.items ≡ events_into l.program l.lists l.thread.0 l.source;
  charges : length l.charges.items ≡ events_into l.program l.lists l.thread.0 l.source;
  event_room : vec_capacity l.accepted ≡ vec_capacity l.initial.accepted;
  charge_room : vec_capacity l.charges ≡ vec_capacity l.initial.charges;
}
