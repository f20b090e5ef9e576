use Rattle.kernel_core.proofs.Common.{◌≡◌, ◌+◌, ◌++◌, List, length, map, take, drop, get_or, set, refl, sym, ap, ◌∙◌, subst, arith, take_at, Row, Pusher, rebooted, no_pusher}
use Rattle.kernel_core.proofs.Mapped.{mapped_more, mapped_all}
use Rattle.kernel_core.proofs.board.lose_rows.Goals as goal

pub loop-pusher-init : goal.loop-pusher-init
loop-pusher-init c = refl

pub loop-pusher-preserved : goal.loop-pusher-preserved
loop-pusher-preserved c =
    subst (λ (z : List Pusher × Row). set z.0 c.loop-pusher.pusher-index (record { port = (get_or z.0 c.loop-pusher.pusher-index no_pusher).port; row = z.1 })
    ≡ map rebooted (take (c.loop-pusher.pusher-index + 1) c.deref_mut-pusher-items.result.now) ++ drop (c.loop-pusher.pusher-index + 1) c.deref_mut-pusher-items.result.now)
    (sym (λ k. (c.loop-pusher.invariant k, c.first-pusher.ensures k)))
    (mapped_more rebooted no_pusher c.deref_mut-pusher-items.result.now c.loop-pusher.pusher-index c.loop-pusher-test.true)

pub returns : goal.returns
returns c =
    let all : c.loop-pusher.pusher-items ≡ map rebooted c.args.pushers.now.items =
    c.loop-pusher.invariant ∙ (mapped_all rebooted c.deref_mut-pusher-items.result.now c.loop-pusher.pusher-index c.loop-pusher-test.false ∙ ap (λ z. map rebooted z) c.deref_mut-pusher-items.ensures.value) in
    take_at c.loop-pusher.pusher-items (drop (length c.loop-pusher.pusher-items) c.args.pushers.now.items) c.args.pushers.now.len
    (let e = c.deref_mut-pusher-items.ensures.len in let f = c.loop-pusher.auto.pusher-items in omega arith)
    ∙ all
