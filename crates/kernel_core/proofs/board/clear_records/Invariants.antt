use Rattle.kernel_core.proofs.Common.{◌≡◌, ◌++◌, map, take, drop, emptied}
use Rattle.kernel_core.proofs.board.clear_records.Given as goal

abbrev pub invariant-loop-charge : goal.invariant-loop-charge
invariant-loop-charge l = l.charge-items ≡ map emptied (take l.charge-index l.initial.charge-items) ++ drop l.charge-index l.initial.charge-items
