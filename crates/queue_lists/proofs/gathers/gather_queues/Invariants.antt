use Rattle.std.proofs.Common.{◌≡◌, ◌++◌, ◌<◌, ℕ, [], length, vec_capacity}
use Rattle.std.specs.Prelude.{slice_index_or}
use Rattle.queue_lists.specs.Gathers.{ArePlaced}
use Rattle.queue_lists.proofs.gathers.gather_queues.Given as goal

-- the queues so far
abbrev pub invariant-loop-queue : goal.invariant-loop-queue
invariant-loop-queue l = record {
  number : length l.accepted.items ≡ length l.yielded;
  dated : length l.charges.items ≡ length l.yielded;
  event_room : vec_capacity l.accepted ≡ vec_capacity l.fn.accepted;
  charge_room : vec_capacity l.charges ≡ vec_capacity l.fn.charges;
  rest : l.fn.queues.items ≡ l.yielded ++ l.queue-iterator.rest.items;
  each : (t : ℕ) → t < length l.yielded → ArePlaced l.program l.lists t (length l.lists) (slice_index_or l.accepted.items t []) (slice_index_or l.charges.items t []);
}
