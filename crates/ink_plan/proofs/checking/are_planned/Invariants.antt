use Rattle.std.proofs.Common.{◌≡◌, ℕ, true}
use Rattle.prog_check.specs.Lookup.{task_def}
use Rattle.ink_plan.specs.Code.{all_below}
use Rattle.ink_plan.specs.Plans.{is_task_plan, plan_of}
use Rattle.ink_plan.proofs.checking.are_planned.Given as goal

abbrev pub invariant-loop-x : goal.invariant-loop-x
invariant-loop-x l = all_below (λ (x : ℕ). is_task_plan l.program (task_def l.program x) (plan_of l.plan x)) l.x ≡ true
