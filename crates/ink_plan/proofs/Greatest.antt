-- The greatest of a list, as a loop finds it.
use Rattle.std.proofs.Common.{◌≡◌, ℕ, ◌+◌, ◌<◌, List, length, get_or, take, sym, ap, ◌∙◌, arith}
use Rattle.std.specs.Prelude.{max}
use Rattle.std.specs.Ordering.{ord_max, nat_cmp}
use Rattle.std.proofs.lemmas.Grind.{common_steps}
use Rattle.std.proofs.lemmas.List.{take_more}
use Rattle.std.proofs.lemmas.List.Recursion.{max_push}
use Rattle.task_isa.specs.declared.instr.Instr.{Instr}
use Rattle.ink_plan.specs.declared.plan.TaskPlan.{TaskPlan}
use Rattle.ink_plan.specs.Code.{weight, greatest_weight}
use Rattle.ink_plan.specs.Plans.{greatest_bound}

pub max_is : (a b : ℕ) → ord_max nat_cmp a b ≡ max a b
max_is a b = grind (arith, common_steps)

pub weight_more : (code : List Instr) (k : ℕ) (instr : Instr) → k < length code → instr ≡ get_or code k instr →
    greatest_weight (take (k + 1) code) ≡ max (greatest_weight (take k code)) (weight instr)
weight_more code k instr inside is =
    ap greatest_weight (take_more code k instr inside)
    ∙ max_push greatest_weight weight (omega arith) (λ x xs. omega arith) (take k code) (get_or code k instr)
    ∙ ap (λ (x : Instr). max (greatest_weight (take k code)) (weight x)) (sym is)

pub bound_more : (plans : List TaskPlan) (k : ℕ) (p : TaskPlan) → k < length plans → p ≡ get_or plans k p →
    greatest_bound (take (k + 1) plans) ≡ max (greatest_bound (take k plans)) p.bound
bound_more plans k p inside is =
    ap greatest_bound (take_more plans k p inside)
    ∙ max_push greatest_bound (λ (x : TaskPlan). x.bound) (omega arith) (λ x xs. omega arith) (take k plans) (get_or plans k p)
    ∙ ap (λ (x : TaskPlan). max (greatest_bound (take k plans)) x.bound) (sym is)
