-- The starts of the regions before, and the end of the last of them.
use Rattle.ink_layout.proofs.Lengths.{Before}
use Rattle.ink_layout.proofs.starts.starts_of.Given as goal

abbrev pub invariant-loop-length : goal.invariant-loop-length
invariant-loop-length l = Before l.length-index l.at l.lengths l.starts.items
