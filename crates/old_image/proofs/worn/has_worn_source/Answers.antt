use Rattle.old_image.proofs.Common.{◌≡◌, sym, ap, ◌∙◌, length, arith, ltb-true, Program}
use Rattle.std.proofs.Common.{below_more}
use Rattle.std.proofs.lemmas.Bool.{leb-false}
use Rattle.old_image.specs.Worn.{ManyReadings}
use Rattle.old_image.proofs.worn.has_worn_source.Goals as goal

pub returns-then-is_worn_source : goal.returns-then-is_worn_source
returns-then-is_worn_source c =
    let same : length c.program.result.now.sources ≡ length c.args.plan.now.accepted.sources = ap (λ (p : Program). length p.sources) c.program.ensures.same in
    let all = c.len-i-end.ensures in
    ManyReadings c.loop-i.i (omega arith) (ltb-true _ _ (sym c.is_worn_source.ensures ∙ c.if-is_worn_source.true))

pub loop-i-preserved : goal.loop-i-preserved
loop-i-preserved c = below_more _ _ c.loop-i.invariant (let small = leb-false _ _ (sym c.is_worn_source.ensures ∙ c.if-is_worn_source.false) in omega arith)

pub returns : goal.returns
returns c =
    let same : length c.program.result.now.sources ≡ length c.args.plan.now.accepted.sources = ap (λ (p : Program). length p.sources) c.program.ensures.same in
    let all = c.len-i-end.ensures in λ n lt. c.loop-i.invariant n (omega arith)
