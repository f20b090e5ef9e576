-- The turns of the first so many charges are there.
use Rattle.std.proofs.Common.{◌≡◌, map, take}
use Rattle.ink_base.specs.declared.actor.Actor.TheVariants as actors
use Rattle.live_account.specs.Turns.{turns_for}
use Rattle.live_board.proofs.parts.budgets_of.Given as goal

abbrev pub invariant-loop-charge : goal.invariant-loop-charge
invariant-loop-charge l = l.budgets.items ≡ map (turns_for actors.Kernel) (take l.charge-index l.charges)
