-- Tasks and their plans, as a loop over them reads them.
use Rattle.std.proofs.Common.{◌≡◌, ℕ, ◌+◌, ◌<◌, List, [], ◌∷◌, ◌++◌, length, get_or, sym, ap, ◌∙◌, subst, inl, inr, arith}
use Rattle.std.proofs.Math.ListN.{get_or-append}
use Rattle.std.proofs.Math.Seq.{get_or-append_seam}
use Rattle.std.proofs.lemmas.Bool.{cases_lt}
use Rattle.std.proofs.lemmas.List.{get_or_read}
use Rattle.task_isa.specs.declared.program.Program.{Program}
use Rattle.task_isa.specs.declared.program.Task.{Task}
use Rattle.prog_check.specs.Lookup.{no_task_def, task_def}
use Rattle.ink_plan.specs.declared.plan.TaskPlan.{TaskPlan}
use Rattle.ink_plan.specs.declared.plan.EnergyPlan.{EnergyPlan}
use Rattle.ink_plan.specs.Plans.{no_plan, plan_of}

pub task_read : (program : Program) (tasks : List Task) (x : ℕ) (task : Task) → tasks ≡ program.tasks → x < length program.tasks → task ≡ get_or tasks x task → task ≡ task_def program x
task_read program tasks x task same inside is =
    get_or_read tasks x task (subst (λ (l : List Task). x < length l) (sym same) inside) is no_task_def ∙ ap (λ (l : List Task). get_or l x no_task_def) same

pub plan_read : (plan : EnergyPlan) (plans : List TaskPlan) (x : ℕ) (p : TaskPlan) → plans ≡ plan.tasks → x < length plan.tasks → p ≡ get_or plans x p → p ≡ plan_of plan x
plan_read plan plans x p same inside is =
    get_or_read plans x p (subst (λ (l : List TaskPlan). x < length l) (sym same) inside) is no_plan ∙ ap (λ (l : List TaskPlan). get_or l x no_plan) same

-- what holds of each plan holds with one more
pub plans_more : (P : ℕ → TaskPlan → Type 0) (plans : List TaskPlan) (p : TaskPlan) (count : ℕ) → length plans ≡ count → ((x : ℕ) → x < count → P x (get_or plans x no_plan)) → P count p →
    (x : ℕ) → x < count + 1 → P x (get_or (plans ++ p ∷ []) x no_plan)
plans_more P plans p count long each here x lt =
    elim (cases_lt x count) [
      | inl below ↦ subst (P x) (sym (get_or-append plans (p ∷ []) no_plan x (rw long below))) (each x below)
      | inr last ↦
          let is : x ≡ count = omega arith in
          let seam : get_or (plans ++ p ∷ []) count no_plan ≡ p = ap (λ n. get_or (plans ++ p ∷ []) n no_plan) (sym long) ∙ get_or-append_seam plans p [] no_plan in
          subst (λ n. P n (get_or (plans ++ p ∷ []) n no_plan)) (sym is) (subst (P count) (sym seam) here)
    ]
