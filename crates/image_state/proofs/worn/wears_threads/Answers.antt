use Rattle.image_state.proofs.Common.{sym, ap, ◌∙◌, length, arith, Program, by_place, wears_thread}
use Rattle.image_state.proofs.Wears.{any_from, any_not}
use Rattle.image_state.proofs.worn.wears_threads.Goals as goal

pub returns-then-wears_thread : goal.returns-then-wears_thread
returns-then-wears_thread c =
    let program = c.args.plan.now.accepted in
    let count = ap (λ (p : Program). length p.threads) c.program.ensures.same in
    sym (any_from (wears_thread program c.args.listed.now (by_place program c.args.words.now)) (length program.threads) c.loop-t.t (omega (arith, count))
    (sym c.wears_thread.ensures ∙ c.if-wears_thread.true))

pub loop-t-preserved : goal.loop-t-preserved
loop-t-preserved c =
    let program = c.args.plan.now.accepted in
    any_not (wears_thread program c.args.listed.now (by_place program c.args.words.now)) c.loop-t.t c.loop-t.invariant (sym c.wears_thread.ensures ∙ c.if-wears_thread.false)
