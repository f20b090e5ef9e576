use Rattle.never_cut.proofs.Common.{◌≡◌, map, take, open_pipe}
use Rattle.never_cut.proofs.opening.pipes_at_start.Given as goal

abbrev pub invariant-loop-pipe : goal.invariant-loop-pipe
invariant-loop-pipe l = l.models.items ≡ map open_pipe (take l._pipe-index l.pipes)
