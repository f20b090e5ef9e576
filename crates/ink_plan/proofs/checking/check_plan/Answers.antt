use Rattle.std.proofs.Common.{sym, ap, ◌∙◌}
use Rattle.task_isa.specs.declared.program.Program.{Program}
use Rattle.ink_plan.specs.Plans.{is_plan}
use Rattle.ink_plan.proofs.Costs.{bounds_services}
use Rattle.ink_plan.proofs.Heaviest.{tells_heaviest}
use Rattle.ink_plan.proofs.Least.{least_suffices}
use Rattle.ink_plan.proofs.Slacks.{tells_slack}
use Rattle.ink_plan.proofs.checking.check_plan.Goals as goal

pub returns-clause-bounds : goal.returns-clause-bounds
returns-clause-bounds c = λ yes.
    bounds_services c.args.program.now c.args.plan.now c.program.ensures.accepted (ap (λ (p : Program). is_plan p c.args.plan.now) (sym c.program.ensures.same) ∙ sym c.is_plan.ensures ∙ yes)

pub returns-clause-heaviest : goal.returns-clause-heaviest
returns-clause-heaviest c = λ yes.
    tells_heaviest c.args.program.now c.args.plan.now c.program.ensures.accepted (ap (λ (p : Program). is_plan p c.args.plan.now) (sym c.program.ensures.same) ∙ sym c.is_plan.ensures ∙ yes)

pub returns-clause-least : goal.returns-clause-least
returns-clause-least c = λ yes.
    least_suffices c.args.program.now c.args.plan.now c.program.ensures.accepted (ap (λ (p : Program). is_plan p c.args.plan.now) (sym c.program.ensures.same) ∙ sym c.is_plan.ensures ∙ yes)

pub returns-clause-slack : goal.returns-clause-slack
returns-clause-slack c = λ yes.
    tells_slack c.args.program.now c.args.plan.now c.program.ensures.accepted (ap (λ (p : Program). is_plan p c.args.plan.now) (sym c.program.ensures.same) ∙ sym c.is_plan.ensures ∙ yes)
