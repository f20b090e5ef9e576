use Rattle.std.proofs.Common.{◌≡◌, ℕ, ◌+◌, ◌<◌, true, List, [], ◌∷◌, ◌++◌, length, get_or, sym, ap, ◌∙◌, subst, arith, eq-eqb, length-append}
use Rattle.std.proofs.lemmas.Bool.{and_from}
use Rattle.task_isa.specs.declared.program.Program.{Program}
use Rattle.task_isa.specs.declared.program.Task.{Task}
use Rattle.prog_check.specs.Lookup.{task_def}
use Rattle.ink_plan.specs.declared.plan.TaskPlan.{TaskPlan}
use Rattle.ink_plan.specs.Plans.{no_plan, is_task_plan, least_of, is_plan}
use Rattle.ink_plan.specs.Lowest.{IsLowestPath}
use Rattle.ink_plan.proofs.Below.{below_from}
use Rattle.ink_plan.proofs.Reading.{task_read, plans_more}
use Rattle.ink_plan.proofs.making.make_plan.Goals as goal

pub loop-task-preserved : goal.loop-task-preserved
loop-task-preserved c =
    let program : Program = c.program-program.result.now in
    let k : ℕ = c.loop-task.task-index in
    let p : TaskPlan = c.in_ok-plan_task.field-0 in
    let pushed : c.push.new.self ≡ c.loop-task.tasks ++ p ∷ [] = c.in_ok-push.ensures.ok in
    let inside : k < length program.tasks = subst (λ (l : List Task). k < length l) c.as_slice-task-items.ensures c.loop-task-test.true in
    let task = task_read program c.as_slice-task-items.result.now k c.task-item.result c.as_slice-task-items.ensures inside c.task-item.is in
    record {
      long = ap length pushed ∙ length-append c.loop-task.tasks (p ∷ []) ∙ ap (λ n. n + 1) c.loop-task.invariant.long;
      right = subst (λ (l : List TaskPlan). (x : ℕ) → x < k + 1 → is_task_plan program (task_def program x) (get_or l x no_plan) ≡ true) (sym pushed)
          (plans_more (λ (x : ℕ) (q : TaskPlan). is_task_plan program (task_def program x) q ≡ true) c.loop-task.tasks p k c.loop-task.invariant.long c.loop-task.invariant.right
          (subst (λ (t : Task). is_task_plan program t p ≡ true) task c.in_ok-plan_task.ensures.right));
      lowest = subst (λ (l : List TaskPlan). (x : ℕ) → x < k + 1 → IsLowestPath (task_def program x) (get_or l x no_plan).rest (get_or l x no_plan).path) (sym pushed)
          (plans_more (λ (x : ℕ) (q : TaskPlan). IsLowestPath (task_def program x) q.rest q.path) c.loop-task.tasks p k c.loop-task.invariant.long c.loop-task.invariant.lowest
          (subst (λ (t : Task). IsLowestPath t p.rest p.path) task c.in_ok-plan_task.ensures.lowest));
    }

pub returns-clause-right : goal.returns-clause-right
returns-clause-right c =
    let program : Program = c.program-program.result.now in
    let all : c.loop-task.task-index ≡ length program.tasks = (let e = ap length c.as_slice-task-items.ensures in omega arith) in
    let planned = below_from (λ (x : ℕ). is_task_plan program (task_def program x) (get_or c.loop-task.tasks x no_plan)) (length program.tasks) (λ x lt. c.loop-task.invariant.right x (omega arith)) in
    subst (λ (q : Program). is_plan q (record { tasks = c.loop-task.tasks; least = c.least_of-least.result }) ≡ true) c.program-program.ensures.same
    (and_from _ _ (and_from _ _ (eq-eqb _ _ (c.loop-task.invariant.long ∙ all)) planned) (eq-eqb _ _ (c.least_of-least.ensures ∙ ap (λ (l : List TaskPlan). least_of program l) c.as_slice.ensures)))
