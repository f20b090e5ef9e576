-- What the loop has computed is the thread of the greatest priority below the bound.
use Rattle.priority_sched.proofs.Common.{◌≡◌, length, sym, ap, ◌∙◌, subst, arith, next_among, IsHighest}
use Rattle.priority_sched.proofs.Orders.{next_is_highest}
use Rattle.priority_sched.proofs.order.next_below.Goals as goal

pub returns-clause-highest : goal.returns-clause-highest
returns-clause-highest c =
    let program = c.args.program.now in
    let all : c.loop-n.n ≡ length c.args.program.now.threads = omega (arith, c.len-n-end.ensures) in
    subst (IsHighest program c.args.bound (length program.threads)) (sym (c.loop-n.invariant.best_is ∙ ap (next_among program c.args.bound) all))
    (next_is_highest program c.args.bound (length program.threads))
