-- The text of a plan, as bytes.
use Rattle.std.specs.Prelude.{ℕ, zero, suc, length, Bool, if◌then◌else◌, List, [], ◌++◌, flat_map, codes, decimal}
use Rattle.task_isa.specs.declared.program.Program.{Program}
use Rattle.task_isa.specs.declared.program.Task.{Task}
use Rattle.prog_check.specs.Lookup.{task_def}
use Rattle.ink_plan.specs.declared.plan.TaskPlan.{TaskPlan}
use Rattle.ink_plan.specs.declared.plan.EnergyPlan.{EnergyPlan}
use Rattle.ink_plan.specs.Plans.{plan_of}

-- what the code of a task is
abbrev pub kind_of : (forward : Bool) → List ℕ
kind_of forward = if forward then codes " forward" else codes " looped"

-- task NAME forward code C bound B
abbrev pub task_line : Task → TaskPlan → List ℕ
task_line task p = codes "task " ++ task.name ++ kind_of p.forward ++ codes " code " ++ decimal p.code ++ codes " bound " ++ decimal p.bound ++ codes "\n"

-- a line for each of the first so many tasks, in order
unfoldable pub task_lines : Program → EnergyPlan → ℕ → List ℕ
task_lines program plan zero = []
task_lines program plan (suc x) = task_lines program plan x ++ task_line (task_def program x) (plan_of plan x)

-- and the least
abbrev pub plan_text : Program → EnergyPlan → List ℕ
plan_text program plan = task_lines program plan (length program.tasks) ++ codes "least " ++ decimal plan.least ++ codes "\n"

-- an offset, behind a blank
abbrev pub offset : ℕ → List ℕ
offset at = codes " " ++ decimal at

-- path NAME and the offsets, of forward code
abbrev pub path_line : Task → TaskPlan → List ℕ
path_line task p = if p.forward then codes "path " ++ task.name ++ flat_map offset p.path ++ codes "\n" else []

-- a line for each of the first so many tasks that have one, in order
unfoldable pub path_lines : Program → EnergyPlan → ℕ → List ℕ
path_lines program plan zero = []
path_lines program plan (suc x) = path_lines program plan x ++ path_line (task_def program x) (plan_of plan x)
