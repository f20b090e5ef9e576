-- No path through forward code takes more than its plan says.
use Rattle.std.proofs.Common.{◌≡◌, ℕ, ◌+◌, ◌<◌, ◌≤◌, Bool, true, false, List, [], ◌∷◌, length, get_or, subst, arith, eqb-true}
use Rattle.std.proofs.lemmas.Bool.{and_parts}
use Rattle.std.proofs.lemmas.List.Sums.{sum_by-cons}
use Rattle.std.specs.Prelude.{if◌then◌else◌}
use Rattle.task_isa.specs.declared.program.Program.{Program}
use Rattle.task_isa.specs.declared.program.Task.{Task}
use Rattle.prog_check.specs.Accepted.{IsAccepted}
use Rattle.prog_check.specs.Lookup.{task_def, instr_at}
use Rattle.ink_plan.specs.declared.plan.TaskPlan.{TaskPlan}
use Rattle.ink_plan.specs.declared.plan.EnergyPlan.{EnergyPlan}
use Rattle.ink_plan.specs.Code.{weight, is_forward}
use Rattle.ink_plan.specs.Plans.{walks, is_path, weight_of, are_rests, is_forward_plan, is_looped_plan, is_plan, plan_of}
use Rattle.ink_plan.specs.Bounded.{TellsHeaviest}
use Rattle.ink_plan.specs.kept.Closed.{IsClosed}
use Rattle.ink_plan.proofs.Closed.{closed}
use Rattle.ink_plan.proofs.Costs.{HasForward, forward_facts, task_planned}
use Rattle.ink_plan.proofs.Rests.{rest_at}
use Rattle.ink_plan.proofs.Runs.{follows_inside, follows_rest}

-- from an offset on no path takes more than its rest
walk_takes : (task : Task) (rest : List ℕ) (at : ℕ) (path : List ℕ) → IsClosed task → are_rests task rest ≡ true → at < length task.code → walks task at path ≡ true →
    weight_of task (at ∷ path) ≤ get_or rest at 0
walk_takes task rest at [] close right inside walk = let is = rest_at task rest at right inside in omega arith
walk_takes task rest at (next ∷ path) close right inside walk =
    let parts = and_parts _ _ walk in
    let is = rest_at task rest at right inside in
    let behind = follows_rest task rest at next parts.0 in
    let more = walk_takes task rest next path close right (follows_inside task at next close inside parts.0) parts.1 in
    let sum : weight_of task (at ∷ next ∷ path) ≡ weight (instr_at task at) + weight_of task (next ∷ path) = sum_by-cons (λ (k : ℕ). weight (instr_at task k)) at (next ∷ path) in
    omega arith

path_takes : (task : Task) (rest : List ℕ) (path : List ℕ) → IsClosed task → are_rests task rest ≡ true → is_path task path ≡ true → weight_of task path ≤ get_or rest 0 0
path_takes task rest [] close right is = omega arith
path_takes task rest (at ∷ path) close right is =
    let parts = and_parts _ _ is in
    let first : at ≡ 0 = eqb-true _ _ parts.0 in
    subst (λ n. weight_of task (at ∷ path) ≤ get_or rest n 0) first (walk_takes task rest at path close right (let some = close.some in omega arith) parts.1)

-- the plan of forward code
pub forward_of : (task : Task) (p : TaskPlan) (forward : Bool) → forward ≡ true → (if forward then is_forward_plan task p else is_looped_plan task p) ≡ true → HasForward task p
forward_of task p true is right = forward_facts task p right
forward_of task p false is right = absurd cc

pub tells_heaviest : (program : Program) (plan : EnergyPlan) → IsAccepted program → is_plan program plan ≡ true → TellsHeaviest program plan
tells_heaviest program plan accepted right x known forward =
    let parts = and_parts _ _ (task_planned program plan x right known) in
    let facts = forward_of (task_def program x) (plan_of plan x) (is_forward (task_def program x)) forward parts.0 in
    let code = facts.code in
    record {
      path = facts.path;
      weight = facts.weight;
      most = λ path is. let takes = path_takes (task_def program x) (plan_of plan x).rest path (closed program (task_def program x) (accepted.tasks x known)) facts.rests is in omega arith;
    }
