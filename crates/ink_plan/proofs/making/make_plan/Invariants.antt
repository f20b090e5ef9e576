use Rattle.std.proofs.Common.{◌≡◌, ℕ, ◌<◌, true, length, slice_index_or}
use Rattle.prog_check.specs.Lookup.{task_def}
use Rattle.ink_plan.specs.Plans.{no_plan, is_task_plan}
use Rattle.ink_plan.specs.Lowest.{IsLowestPath}
use Rattle.ink_plan.proofs.making.make_plan.Given as goal

abbrev pub invariant-loop-task : goal.invariant-loop-task
invariant-loop-task l =
    record {
      long : length l.tasks ≡ l.task-index;
      right : (x : ℕ) → x < l.task-index → is_task_plan l.program (task_def l.program x) (slice_index_or l.tasks x no_plan) ≡ true;
      lowest : (x : ℕ) → x < l.task-index → IsLowestPath (task_def l.program x) (slice_index_or l.tasks x no_plan).rest (slice_index_or l.tasks x no_plan).path;
    }
