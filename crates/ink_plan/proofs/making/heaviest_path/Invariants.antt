use Rattle.std.proofs.Common.{◌≡◌, ℕ, ◌+◌, ◌-◌, ◌<◌, true, List, ◌++◌, length}
use Rattle.std.specs.Prelude.{slice_index}
use Rattle.prog_check.specs.Lookup.{instr_at}
use Rattle.ink_plan.specs.Plans.{walks, is_path, weight_of, rest_behind}
use Rattle.ink_plan.specs.Lowest.{GoesLowest, IsLowestPath}
use Rattle.ink_plan.proofs.making.heaviest_path.Given as goal

-- the path goes on as the task goes on from its last offset
abbrev pub invariant-loop-at : goal.invariant-loop-at
invariant-loop-at l =
    record {
      inside : l.at < length l.task.code;
      goes : (more : List ℕ) → walks l.task l.at more ≡ true → is_path l.task (l.path ++ more) ≡ true;
      lowest : (more : List ℕ) → GoesLowest l.task l.rest l.at more → IsLowestPath l.task l.rest (l.path ++ more);
      weight : weight_of l.task l.path + rest_behind l.rest l.at (instr_at l.task l.at) ≡ slice_index l.rest 0;
    }

abbrev pub decreases-loop-at : goal.decreases-loop-at
decreases-loop-at l = length l.task.code - l.at
