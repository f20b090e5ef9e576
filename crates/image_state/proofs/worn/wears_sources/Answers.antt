use Rattle.image_state.proofs.Common.{sym, ap, ◌∙◌, length, arith, Program, by_place, wears_source}
use Rattle.image_state.proofs.Wears.{any_from, any_not}
use Rattle.image_state.proofs.worn.wears_sources.Goals as goal

pub returns-then-wears_source : goal.returns-then-wears_source
returns-then-wears_source c =
    let program = c.args.plan.now.accepted in
    let count = ap (λ (p : Program). length p.sources) c.program.ensures.same in
    sym (any_from (wears_source program c.args.listed.now (by_place program c.args.words.now)) (length program.sources) c.loop-i.i (omega (arith, count))
    (sym c.wears_source.ensures ∙ c.if-wears_source.true))

pub loop-i-preserved : goal.loop-i-preserved
loop-i-preserved c =
    let program = c.args.plan.now.accepted in
    any_not (wears_source program c.args.listed.now (by_place program c.args.words.now)) c.loop-i.i c.loop-i.invariant (sym c.wears_source.ensures ∙ c.if-wears_source.false)
