use Rattle.kernel_core.proofs.Common.{◌≡◌, take, item_turns}
use Rattle.kernel_core.proofs.start.turns_in.Given as goal

abbrev pub invariant-loop-item : goal.invariant-loop-item
invariant-loop-item l = l.turns ≡ item_turns (take l.item-index l.item-items)
