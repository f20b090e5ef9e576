use Rattle.never_cut.proofs.Common.{length}
use Rattle.never_cut.proofs.effects.clear.Given as goal

abbrev pub decreases-loop : goal.decreases-loop
decreases-loop l = length l.list
