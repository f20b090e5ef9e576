use Rattle.ink_image.proofs.Common.{◌≡◌, ◌++◌, drop, behind_settled}
use Rattle.ink_image.proofs.settled.behind_settled.Given as goal

abbrev pub invariant-loop-i : goal.invariant-loop-i
invariant-loop-i l = l.lists ++ behind_settled (drop l.i l.sources) (drop l.i l.readings) ≡ behind_settled l.sources l.readings
