use Rattle.never_cut.proofs.Common.{◌≡◌, take}
use Rattle.never_cut.proofs.copying.copied_pipes.Given as goal

abbrev pub invariant-loop-pipe : goal.invariant-loop-pipe
invariant-loop-pipe l = l.copies.items ≡ take l.pipe-index l.pipes
