-- What a right plan is.
use Rattle.std.specs.Prelude.{ℕ, ◌+◌, ◌*◌, ◌==◌, ◌&&◌, max, not, Bool, false, if◌then◌else◌, List, [], ◌∷◌, length, sum_by, slice_index, slice_index_or, Some, None}
use Rattle.task_isa.specs.declared.instr.Instr.{Instr}
use Rattle.task_isa.specs.declared.program.Program.{Program}
use Rattle.task_isa.specs.declared.program.Task.{Task}
use Rattle.prog_check.specs.Accepted.{ends_code}
use Rattle.prog_check.specs.Lookup.{thread_def, task_def, instr_at}
use Rattle.ink_layout.specs.Shape.{pages_of}
use Rattle.never_cut.specs.Bounds.{boot_bound, scan_bound}
use Rattle.ink_plan.specs.declared.plan.TaskPlan.{TaskPlan}
use Rattle.ink_plan.specs.declared.plan.EnergyPlan.{EnergyPlan}
use Rattle.ink_plan.specs.Code.{weight, target_of, may_follow, ends_task, all_below, is_forward, greatest_weight, can_trap}

-- a task goes on from an offset over the others of a path, and ends at the last
abbrev pub walks : Task → (at : ℕ) → List ℕ → Bool
walks task at [] = ends_task (instr_at task at)
walks task at (next ∷ path) = may_follow task at next && walks task next path

-- a path through the code: from the first instruction to an end of the task
abbrev pub is_path : Task → List ℕ → Bool
is_path task [] = false
is_path task (at ∷ path) = (at == 0) && walks task at path

-- how many accesses the instructions of a path take
abbrev pub weight_of : Task → List ℕ → ℕ
weight_of task path = sum_by (λ (at : ℕ). weight (instr_at task at)) path

-- the greater rest of the offsets at which the task may go on, 0 where it is over
abbrev pub rest_behind : List ℕ → (at : ℕ) → Instr → ℕ
rest_behind rest at instr =
    max (if ends_code instr then 0 else slice_index rest (at + 1)) (elim (target_of instr) [ None ↦ 0 | Some i ↦ slice_index rest i ])

-- the rest of an offset is what its instruction takes and the greatest rest behind it
abbrev pub is_rest : Task → List ℕ → (at : ℕ) → Bool
is_rest task rest at = slice_index rest at == weight (instr_at task at) + rest_behind rest at (instr_at task at)

-- each offset of the code has its rest
abbrev pub are_rests : Task → List ℕ → Bool
are_rests task rest = (length rest == length task.code) && all_below (is_rest task rest) (length task.code)

-- forward code takes the rest of its first instruction, and has a path that takes as much
abbrev pub is_forward_plan : Task → TaskPlan → Bool
is_forward_plan task p =
    p.forward && are_rests task p.rest && (p.code == slice_index p.rest 0) && is_path task p.path && (weight_of task p.path == p.code)

-- other code takes its heaviest instruction as often as its limit allows
abbrev pub is_looped_plan : Task → TaskPlan → Bool
is_looped_plan task p =
    not p.forward && (length p.rest == 0) && (length p.path == 0) && (p.code == task.limit * greatest_weight task.code)

-- a service writes to its pages and takes up to five accesses for its event; where it can trap it may do so twice
abbrev pub bound_of : Program → Task → (code : ℕ) → ℕ
bound_of program task code = code + (if can_trap task then 2 else 1) * (16 * pages_of (thread_def program task.thread.0) + 5) + 6

-- the plan of a task
abbrev pub is_task_plan : Program → Task → TaskPlan → Bool
is_task_plan program task p =
    (if is_forward task then is_forward_plan task p else is_looped_plan task p) && (p.bound == bound_of program task p.code)

-- the plan of a task that has none
abbrev pub no_plan : TaskPlan
no_plan = record { forward = false; rest = []; path = []; code = 0; bound = 0 }

-- the plan of a task by its number
abbrev pub plan_of : EnergyPlan → ℕ → TaskPlan
plan_of plan x = slice_index_or plan.tasks x no_plan

-- the greatest bound
abbrev pub greatest_bound : List TaskPlan → ℕ
greatest_bound [] = 0
greatest_bound (p ∷ plans) = max p.bound (greatest_bound plans)

-- a boot, a scan, the greatest service, and the two accesses that release its event
abbrev pub least_of : Program → List TaskPlan → ℕ
least_of program plans = boot_bound program + (scan_bound program + 2) + greatest_bound plans

-- the plan of a program: one of each task, and the least that a charge should have
abbrev pub is_plan : Program → EnergyPlan → Bool
is_plan program plan =
    (length plan.tasks == length program.tasks) && all_below (λ (x : ℕ). is_task_plan program (task_def program x) (plan_of plan x)) (length program.tasks)
    && (plan.least == least_of program plan.tasks)
