-- The lengths of those before.
use Rattle.ink_layout.proofs.Common.{◌≡◌, ◌++◌, map, take, pipe_words}
use Rattle.ink_layout.proofs.starts.add_rings.Given as goal

abbrev pub invariant-loop-pipe : goal.invariant-loop-pipe
invariant-loop-pipe l = l.lengths.items ≡ l.initial.lengths.items ++ map pipe_words (take l.pipe-index l.pipes)
