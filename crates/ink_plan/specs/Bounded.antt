-- What a right plan is worth: no service takes more than the bound of its task.
use Rattle.std.specs.Prelude.{◌≡◌, ℕ, ◌<◌, ◌≤◌, true, List, length}
use Rattle.task_isa.specs.declared.program.Program.{Program}
use Rattle.prog_check.specs.Lookup.{task_def}
use Rattle.never_cut.specs.declared.model.Model.{Model}
use Rattle.never_cut.specs.Commit.{task_at}
use Rattle.never_cut.specs.Cost.{cost}
use Rattle.never_cut.specs.Entries.{Readings}
use Rattle.never_cut.specs.Sound.{IsSound}
use Rattle.ink_plan.specs.declared.plan.EnergyPlan.{EnergyPlan}
use Rattle.ink_plan.specs.Code.{is_forward}
use Rattle.ink_plan.specs.Plans.{plan_of, is_path, weight_of}

-- In every state the service of a thread costs at most the bound of the task that it goes on with, or of its first one where no chain runs. A thread without
-- a pick costs nothing.
abbrev pub BoundsServices : Program → EnergyPlan → Type 0
BoundsServices program plan =
    (readings : Readings) (m : Model) (t : ℕ) → IsSound program readings m → t < length program.threads → cost program m t ≤ (plan_of plan (task_at program m t)).bound

-- Forward code has a path that takes what the plan says of the code, and none takes more.
pub record HasHeaviest (program : Program) (plan : EnergyPlan) (x : ℕ) : Type 0 where
  pub path : is_path (task_def program x) (plan_of plan x).path ≡ true
  pub weight : weight_of (task_def program x) (plan_of plan x).path ≡ (plan_of plan x).code
  pub most : (path : List ℕ) → is_path (task_def program x) path ≡ true → weight_of (task_def program x) path ≤ (plan_of plan x).code

-- so each task with forward code
abbrev pub TellsHeaviest : Program → EnergyPlan → Type 0
TellsHeaviest program plan = (x : ℕ) → x < length program.tasks → is_forward (task_def program x) ≡ true → HasHeaviest program plan x
