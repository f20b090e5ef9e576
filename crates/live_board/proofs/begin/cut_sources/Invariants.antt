use Rattle.live_board.specs.kept.Begins.{IsCut}
use Rattle.live_board.specs.kept.Slices.{AreChanged}
use Rattle.live_board.proofs.begin.cut_sources.Given as goal

abbrev pub invariant-loop-i : goal.invariant-loop-i
invariant-loop-i l = AreChanged (IsCut l.set) l.i l.initial.sources l.sources
