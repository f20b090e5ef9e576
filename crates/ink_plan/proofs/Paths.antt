-- Where a task may go on, and paths that take most.
use Rattle.std.proofs.Common.{◌≡◌, ℕ, ◌+◌, Bool, true, false, ◌&&◌, ◌||◌, not, ◌==◌, List, [], ◌∷◌, ◌++◌, get_or, Option, Some, None, ◌⊎◌, refl, sym, ap, subst, inl, inr, arith, eqb-true, append_assoc}
use Rattle.std.proofs.lemmas.List.Sums.{sum_by-append}
use Rattle.std.proofs.lemmas.Bool.{and_from, and_parts, not-true}
use Rattle.task_isa.specs.declared.instr.Instr.{Instr}
use Rattle.task_isa.specs.declared.instr.Instr.TheVariants.{Next, Done}
use Rattle.task_isa.specs.declared.program.Task.{Task}
use Rattle.prog_check.specs.Accepted.{ends_code}
use Rattle.prog_check.specs.Lookup.{instr_at}
use Rattle.ink_plan.specs.Code.{weight, target_of, is_target, may_follow, ends_task}
use Rattle.ink_plan.specs.Plans.{walks, is_path, weight_of, rest_behind}
use Rattle.ink_plan.specs.Lowest.{IsLowestNext, GoesLowest, IsLowestPath}

is_target_at : (o : Option ℕ) (next : ℕ) → is_target o next ≡ true → o ≡ Some next
is_target_at None next is = absurd cc
is_target_at (Some i) next is = ap (λ n. Some n) (eqb-true i next is)

either : (a b : Bool) → (a || b) ≡ true → (a ≡ true) ⊎ (b ≡ true)
either true b is = inl refl
either false b is = inr is

-- at the next offset, or where the jump goes
pub follows_parts : (task : Task) (at next : ℕ) → may_follow task at next ≡ true →
    ((ends_code (instr_at task at) ≡ false) × (next ≡ at + 1)) ⊎ (target_of (instr_at task at) ≡ Some next)
follows_parts task at next follows =
    elim (either (not (ends_code (instr_at task at)) && (next == at + 1)) (is_target (target_of (instr_at task at)) next) follows) [
      | inl on ↦ let both = and_parts (not (ends_code (instr_at task at))) (next == at + 1) on in inl (not-true _ both.0, eqb-true next (at + 1) both.1)
      | inr jump ↦ inr (is_target_at (target_of (instr_at task at)) next jump)
    ]

-- a path that goes on by one offset
pub path_goes : (task : Task) (path : List ℕ) (at next : ℕ) → may_follow task at next ≡ true → ((more : List ℕ) → walks task at more ≡ true → is_path task (path ++ more) ≡ true) →
    (more : List ℕ) → walks task next more ≡ true → is_path task ((path ++ next ∷ []) ++ more) ≡ true
path_goes task path at next follows goes more on =
    subst (λ (l : List ℕ). is_path task l ≡ true) (sym (append_assoc path (next ∷ []) more)) (goes (next ∷ more) (and_from _ _ follows on))

pub path_lowest : (task : Task) (rest path : List ℕ) (at next : ℕ) → IsLowestNext task rest at next →
    ((more : List ℕ) → GoesLowest task rest at more → IsLowestPath task rest (path ++ more)) →
    (more : List ℕ) → GoesLowest task rest next more → IsLowestPath task rest ((path ++ next ∷ []) ++ more)
path_lowest task rest path at next lowest goes more on =
    subst (λ (l : List ℕ). IsLowestPath task rest l) (sym (append_assoc path (next ∷ []) more)) (goes (next ∷ more) (lowest, on))

-- and what it takes
pub path_weight : (task : Task) (rest path : List ℕ) (at next : ℕ) → get_or rest next 0 ≡ rest_behind rest at (instr_at task at) →
    get_or rest next 0 ≡ weight (instr_at task next) + rest_behind rest next (instr_at task next) →
    weight_of task path + rest_behind rest at (instr_at task at) ≡ get_or rest 0 0 →
    weight_of task (path ++ next ∷ []) + rest_behind rest next (instr_at task next) ≡ get_or rest 0 0
path_weight task rest path at next heaviest is before =
    let more : weight_of task (path ++ next ∷ []) ≡ weight_of task path + weight_of task (next ∷ []) = sum_by-append (λ (k : ℕ). weight (instr_at task k)) path (next ∷ []) in
    omega arith

-- the end
pub over_behind : (task : Task) (rest : List ℕ) (at : ℕ) → ends_task (instr_at task at) ≡ true → rest_behind rest at (instr_at task at) ≡ 0
over_behind task rest at over = by_instr (instr_at task at) over
  where
    by_instr : (instr : Instr) → ends_task instr ≡ true → rest_behind rest at instr ≡ 0
    by_instr (Next i) over = omega arith
    by_instr Done over = omega arith
    by_instr _ over = absurd cc
