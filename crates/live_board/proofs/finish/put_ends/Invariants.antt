use Rattle.std.proofs.Common.{◌≡◌, ◌++◌, length, vec_capacity}
use Rattle.live_board.specs.kept.Ends.{AreLeft}
use Rattle.live_board.proofs.finish.put_ends.Given as goal

-- the sources so far have left their own
abbrev pub invariant-loop-source : goal.invariant-loop-source
invariant-loop-source l = record {
  rest : l.fn.sources.items ≡ l.yielded ++ l.source-iterator.rest.items;
  rooms : (vec_capacity l.seats ≡ vec_capacity l.fn.seats) × (vec_capacity l.srcs ≡ vec_capacity l.fn.srcs) × (vec_capacity l.ends ≡ vec_capacity l.fn.ends);
  left : AreLeft (length l.yielded) l.fn.sources.items l.seats.items l.srcs.items l.ends.items;
}
