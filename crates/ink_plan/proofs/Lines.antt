-- The lines of a plan, one after the other.
use Rattle.std.proofs.Common.{◌≡◌, ℕ, ◌+◌, [], ◌++◌, refl, add-one}
use Rattle.task_isa.specs.declared.program.Program.{Program}
use Rattle.prog_check.specs.Lookup.{task_def}
use Rattle.ink_plan.specs.declared.plan.EnergyPlan.{EnergyPlan}
use Rattle.ink_plan.specs.Plans.{plan_of}
use Rattle.ink_plan.specs.Text.{task_line, task_lines, path_line, path_lines}

pub lines_zero : (program : Program) (plan : EnergyPlan) → task_lines program plan 0 ≡ []
unfolding task_lines
lines_zero program plan = refl

pub lines_more : (program : Program) (plan : EnergyPlan) (x : ℕ) → task_lines program plan (x + 1) ≡ task_lines program plan x ++ task_line (task_def program x) (plan_of plan x)
unfolding task_lines
lines_more program plan x = rw add-one refl

pub paths_zero : (program : Program) (plan : EnergyPlan) → path_lines program plan 0 ≡ []
unfolding path_lines
paths_zero program plan = refl

pub paths_more : (program : Program) (plan : EnergyPlan) (x : ℕ) → path_lines program plan (x + 1) ≡ path_lines program plan x ++ path_line (task_def program x) (plan_of plan x)
unfolding path_lines
paths_more program plan x = rw add-one refl
