-- Which of several paths that take most a plan tells.
use Rattle.std.specs.Prelude.{◌≡◌, ℕ, ◌<◌, ◌≤◌, true, List, [], ◌∷◌, length, slice_index}
use Rattle.task_isa.specs.declared.program.Program.{Program}
use Rattle.task_isa.specs.declared.program.Task.{Task}
use Rattle.prog_check.specs.Lookup.{task_def}
use Rattle.ink_plan.specs.declared.plan.EnergyPlan.{EnergyPlan}
use Rattle.ink_plan.specs.Code.{may_follow}
use Rattle.ink_plan.specs.Plans.{plan_of}

-- no offset at which the task may go on has a greater rest, and no lower one has as great a rest
abbrev pub IsLowestNext : Task → List ℕ → (at next : ℕ) → Type 0
IsLowestNext task rest at next =
    (other : ℕ) → may_follow task at other ≡ true →
    (slice_index rest other ≤ slice_index rest next) × (other < next → slice_index rest other < slice_index rest next)

-- so a path goes on from an offset
abbrev pub GoesLowest : Task → List ℕ → (at : ℕ) → List ℕ → Type 0
GoesLowest task rest at [] = Unit {0}
GoesLowest task rest at (next ∷ path) = IsLowestNext task rest at next × GoesLowest task rest next path

-- and from its first one
abbrev pub IsLowestPath : Task → List ℕ → List ℕ → Type 0
IsLowestPath task rest [] = Unit {0}
IsLowestPath task rest (at ∷ path) = GoesLowest task rest at path

-- and so the path of each task
abbrev pub TakesLowest : Program → EnergyPlan → Type 0
TakesLowest program plan = (x : ℕ) → x < length program.tasks → IsLowestPath (task_def program x) (plan_of plan x).rest (plan_of plan x).path
