use Rattle.std.proofs.Common.{List, length, get_or, ap, subst, arith}
use Rattle.ink_base.specs.declared.actor.Actor.TheVariants as actors
use Rattle.job_parts.specs.declared.item.Item.{Item}
use Rattle.live_account.specs.Turns.{turns_in}
use Rattle.live_board.proofs.Budgets.{turns_fit}
use Rattle.live_board.proofs.turns.turns_for.Goals as goal

pub overflow_add-turns : goal.overflow_add-turns
overflow_add-turns c =
    let d : Item = record { actor = actors.Kernel; count = 0 } in
    let here = ap (λ (l : List Item). turns_in c.args.actor (get_or l c.loop-item.item-index d)) c.as_slice-item-items.ensures in
    let fit = turns_fit c.args.actor c.args.charge.now.items c.loop-item.item-index c.loop-item.turns d
    (let lt = c.loop-item-test.true in let same = ap length c.as_slice-item-items.ensures in omega (arith, lt, same)) c.loop-item.invariant in
    let most = c.requires in
    let turns = c.turns_in-turns.ensures in omega (arith, here, fit, most, turns)
