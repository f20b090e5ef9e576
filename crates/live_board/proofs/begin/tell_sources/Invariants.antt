use Rattle.live_board.specs.kept.Begins.{IsKernelMet, HearsOf}
use Rattle.live_board.specs.kept.Slices.{AreChanged}
use Rattle.live_board.proofs.begin.tell_sources.Given as goal

abbrev pub invariant-loop-i : goal.invariant-loop-i
invariant-loop-i l = AreChanged (HearsOf l.set l.initial.kernel) l.i l.initial.sources l.sources × IsKernelMet l.set l.initial.kernel l.kernel
