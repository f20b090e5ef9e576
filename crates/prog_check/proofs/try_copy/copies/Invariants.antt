use Rattle.prog_check.proofs.Common.{◌≡◌, take}
use Rattle.prog_check.proofs.try_copy.copies.Given as goal

abbrev pub invariant-loop-item : goal.invariant-loop-item
invariant-loop-item g l = l.copies ≡ take l.item-index l.items
