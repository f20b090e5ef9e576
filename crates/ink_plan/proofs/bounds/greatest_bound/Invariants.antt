use Rattle.std.proofs.Common.{◌≡◌, take}
use Rattle.ink_plan.specs.Plans.{greatest_bound}
use Rattle.ink_plan.proofs.bounds.greatest_bound.Given as goal

abbrev pub invariant-loop-plan : goal.invariant-loop-plan
invariant-loop-plan l = l.greatest ≡ greatest_bound (take l.plan-index l.plans)
