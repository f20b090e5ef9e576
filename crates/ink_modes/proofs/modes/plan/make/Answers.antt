use Rattle.ink_modes.proofs.Common.{◌≡◌, true, sym, ap, ◌∙◌, subst, Program}
use Rattle.ink_plan.specs.Plans.{is_plan}
use Rattle.ink_plan.specs.Lowest.{TakesLowest}
use Rattle.ink_plan.proofs.Costs.{bounds_services}
use Rattle.ink_plan.proofs.Heaviest.{tells_heaviest}
use Rattle.ink_plan.proofs.Least.{least_suffices}
use Rattle.ink_plan.proofs.Slacks.{tells_slack}
use Rattle.ink_modes.specs.declared.given.Given.{Given}
use Rattle.ink_modes.specs.declared.finish.Record.TheVariants.{Plan}
use Rattle.ink_modes.specs.modes.Plan.{Makes}
use Rattle.ink_modes.proofs.modes.plan.make.Goals as goal

pub returns-clause-record : goal.returns-clause-record
returns-clause-record c =
    let program = c.into_job-job.result.program in
    let plan = c.in_ok-plan.plan in
    let same = c.accepted.ensures.same in
    let accepted = c.accepted.ensures.job.accepted in
    let right : is_plan program plan ≡ true = ap (λ (p : Program). is_plan p plan) (sym same) ∙ c.in_ok-plan.ensures.right in
    subst (λ (g : Given). Makes g (Plan plan)) (sym c.into_job-job.ensures) (record {
      right = right;
      bounds = bounds_services program plan accepted right;
      heaviest = tells_heaviest program plan accepted right;
      least = least_suffices program plan accepted right;
      slack = tells_slack program plan accepted right;
      lowest = subst (λ (p : Program). TakesLowest p plan) same c.in_ok-plan.ensures.lowest;
    })
