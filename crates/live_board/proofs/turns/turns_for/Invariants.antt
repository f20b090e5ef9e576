use Rattle.std.proofs.Common.{◌≡◌, ◌+◌, drop}
use Rattle.std.specs.Prelude.{sum_by}
use Rattle.live_account.specs.Turns.{turns_in, turns_for}
use Rattle.live_board.proofs.turns.turns_for.Given as goal

abbrev pub invariant-loop-item : goal.invariant-loop-item
invariant-loop-item l = l.turns + sum_by (turns_in l.actor) (drop l.item-index l.charge.items) ≡ turns_for l.actor l.charge
