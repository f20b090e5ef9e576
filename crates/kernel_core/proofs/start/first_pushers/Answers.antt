use Rattle.kernel_core.proofs.Common.{◌≡◌, ◌+◌, sym, ap, ◌∙◌, subst, arith, length, List, Program, Pusher, first_pusher, AreFirstPushers}
use Rattle.kernel_core.proofs.Starts.{no_pushers, one_pusher_more}
use Rattle.kernel_core.proofs.start.first_pushers.Goals as goal

pub loop-i-init : goal.loop-i-init
loop-i-init c = subst (λ (l : List Pusher). AreFirstPushers c.args.plan.now.accepted 0 l) (sym c.new-pushers.ensures.items) (no_pushers c.args.plan.now.accepted)

pub loop-i-preserved : goal.loop-i-preserved
loop-i-preserved c =
    let made : c.boot.result ≡ first_pusher c.args.plan.now.accepted c.loop-i.i = λ k. record { port = (c.boot.ensures.port ∙ c.port_at.ensures.port) k; row = c.boot.ensures.row k } in
    subst (λ (l : List Pusher). AreFirstPushers c.args.plan.now.accepted (c.loop-i.i + 1) l) (sym c.in_ok-push.ensures.items) (one_pusher_more c.args.plan.now.accepted c.loop-i.i c.loop-i.pushers.items c.boot.result c.loop-i.invariant made)

pub returns : goal.returns
returns c =
    let same : length c.program.result.now.sources ≡ length c.args.plan.now.accepted.sources = ap (λ (p : Program). length p.sources) c.program.ensures.same in
    let all : c.loop-i.i ≡ length c.args.plan.now.accepted.sources = omega (arith, same, c.len-i-end.ensures, c.loop-i-test.false, c.loop-i.auto.i-end) in
    subst (λ n. AreFirstPushers c.args.plan.now.accepted n c.loop-i.pushers.items) all c.loop-i.invariant
