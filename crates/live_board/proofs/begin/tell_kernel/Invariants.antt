use Rattle.std.proofs.Common.{◌≡◌}
use Rattle.live_board.specs.kept.Begins.{IsMet, IsKernelMet, KnowsOfAll}
use Rattle.live_board.specs.kept.Slices.{AreChanged}
use Rattle.live_board.proofs.begin.tell_kernel.Given as goal

abbrev pub invariant-loop-i : goal.invariant-loop-i
invariant-loop-i l = AreChanged (IsMet l.set) l.i l.initial.sources l.sources × IsKernelMet l.set l.initial.kernel l.kernel × KnowsOfAll l.kernel l.i l.initial.sources
