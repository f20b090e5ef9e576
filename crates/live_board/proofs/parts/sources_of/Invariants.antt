use Rattle.std.proofs.Common.{◌≡◌, ◌++◌, length, vec_capacity, ◌≤◌}
use Rattle.live_board.specs.kept.Parts.{AreFirstSources}
use Rattle.live_board.proofs.parts.sources_of.Given as goal

-- the sources so far
abbrev pub invariant-loop-seat : goal.invariant-loop-seat
invariant-loop-seat l = record {
  made : AreFirstSources l.job l.yielded l.sources.items;
  room : length l.fn.seats.items ≤ vec_capacity l.sources;
  rest : l.fn.seats.items ≡ l.yielded ++ l.seat-iterator.rest.items;
}
