use Rattle.std.proofs.Common.{◌≡◌, ◌<◌, ℕ, length, vec_capacity}
use Rattle.std.specs.Prelude.{slice_index_or}
use Rattle.queue_lists.specs.Rooms.{HasSpace, no_space, readings_into}
use Rattle.queue_lists.proofs.room.ListRoom.new.Given as goal

-- the room of the queues so far
abbrev pub invariant-loop-t : goal.invariant-loop-t
invariant-loop-t l = record {
  number : length l.queues.items ≡ l.t;
  room : vec_capacity l.queues ≡ l.threads;
  each : (t : ℕ) → t < l.t → HasSpace (readings_into l.job t) (slice_index_or l.queues.items t no_space);
}
