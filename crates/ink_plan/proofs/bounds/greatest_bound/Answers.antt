use Rattle.std.proofs.Common.{◌∙◌, ap, sym}
use Rattle.std.specs.Prelude.{max}
use Rattle.ink_plan.proofs.Greatest.{max_is, bound_more}
use Rattle.ink_plan.proofs.bounds.greatest_bound.Goals as goal

pub loop-plan-preserved : goal.loop-plan-preserved
loop-plan-preserved c =
    c.max-greatest.ensures ∙ max_is c.loop-plan.greatest c.plan-item.result.bound ∙ ap (λ n. max n c.plan-item.result.bound) c.loop-plan.invariant
    ∙ sym (bound_more c.args.plans.now c.loop-plan.plan-index c.plan-item.result c.loop-plan-test.true c.plan-item.is)
