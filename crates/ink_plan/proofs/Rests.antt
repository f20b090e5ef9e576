-- The rests of forward code, from the last one back.
use Rattle.std.proofs.Common.{◌≡◌, ℕ, ◌+◌, ◌<◌, ◌≤◌, Bool, true, false, List, length, get_or, set, Option, Some, None, refl, sym, ap, ◌∙◌, subst, inl, inr, arith, eq-eqb, ltb-true, eqb-true, get_or-set_other, get_or-set_same}
use Rattle.std.proofs.lemmas.Bool.{and_from, and_parts, cases_eq, cases_lt}
use Rattle.std.specs.Prelude.{max, ◌==◌, ◌-◌, if◌then◌else◌}
use Rattle.std.proofs.lemmas.List.{set_past}
use Rattle.task_isa.specs.declared.instr.Instr.{Instr}
use Rattle.task_isa.specs.declared.program.Task.{Task}
use Rattle.prog_check.specs.Accepted.{ends_code}
use Rattle.prog_check.specs.Lookup.{instr_at}
use Rattle.ink_plan.specs.Code.{weight, target_of, jumps_up, goes_up}
use Rattle.ink_plan.specs.Plans.{rest_behind, is_rest, are_rests}
use Rattle.ink_plan.proofs.Below.{below_each, below_from}

-- the instruction at an offset of code that goes up
pub up_at : (task : Task) (at : ℕ) → goes_up task ≡ true → at < length task.code → jumps_up at (target_of (instr_at task at)) ≡ true
up_at task at up inside = below_each (λ (k : ℕ). jumps_up k (target_of (instr_at task k))) (length task.code) up at inside

module _ (rest : List ℕ) (at v : ℕ) where
  other_rest : (k : ℕ) → at < k → get_or (set rest at v) k 0 ≡ get_or rest k 0
  other_rest k above = get_or-set_other rest at k v 0 (λ e. omega arith)

  target_rest : (k : ℕ) (o : Option ℕ) → at ≤ k → jumps_up k o ≡ true →
      (elim o as (λ _. ℕ) [ None ↦ 0 | Some i ↦ get_or (set rest at v) i 0 ]) ≡ (elim o as (λ _. ℕ) [ None ↦ 0 | Some i ↦ get_or rest i 0 ])
  target_rest k None from up = refl
  target_rest k (Some i) from up = let above : k < i = ltb-true k i up in other_rest i (omega arith)

  -- what follows stands at later offsets
  pub behind_set : (k : ℕ) (instr : Instr) → at ≤ k → jumps_up k (target_of instr) ≡ true → rest_behind (set rest at v) k instr ≡ rest_behind rest k instr
  behind_set k instr from up =
      let next : get_or (set rest at v) (k + 1) 0 ≡ get_or rest (k + 1) 0 = other_rest (k + 1) (omega arith) in
      let target = target_rest k (target_of instr) from up in
      λ i. max (if ends_code instr then 0 else next i) (target i)

  -- a rest behind it stays
  rest_stays : (task : Task) (k : ℕ) → at < k → jumps_up k (target_of (instr_at task k)) ≡ true → is_rest task rest k ≡ true → is_rest task (set rest at v) k ≡ true
  rest_stays task k above up is =
      let here : get_or (set rest at v) k 0 ≡ get_or rest k 0 = other_rest k above in
      let behind = behind_set k (instr_at task k) (omega arith) up in
      (λ i. here i == weight (instr_at task k) + behind i) ∙ is

  -- and this one is right
  rest_here : (task : Task) → at < length rest → jumps_up at (target_of (instr_at task at)) ≡ true → v ≡ weight (instr_at task at) + rest_behind rest at (instr_at task at) →
      is_rest task (set rest at v) at ≡ true
  rest_here task inside up is =
      let here : get_or (set rest at v) at 0 ≡ v = get_or-set_same rest at v 0 inside in
      let behind = behind_set at (instr_at task at) (omega arith) up in
      eq-eqb _ _ (here ∙ is ∙ ap (λ n. weight (instr_at task at) + n) (sym behind))

  -- so are all that are set
  pub rests_more : (task : Task) (count behind : ℕ) → goes_up task ≡ true → length rest ≡ count → length task.code ≡ count → behind < count → at ≡ count - 1 - behind →
      v ≡ weight (instr_at task at) + rest_behind rest at (instr_at task at) →
      ((k : ℕ) → count ≤ k + behind → k < count → is_rest task rest k ≡ true) →
      (k : ℕ) → count ≤ k + (behind + 1) → k < count → is_rest task (set rest at v) k ≡ true
  rests_more task count behind up long code lt place is done k from inside =
      elim (cases_eq k at) [
        | inl same ↦
            let within : at < length rest = omega arith in
            let up_here = up_at task at up (omega arith) in
            subst (λ n. is_rest task (set rest at v) n ≡ true) (sym same) (rest_here task within up_here is)
        | inr other ↦
            let above : at < k = omega arith in
            rest_stays task k above (up_at task k up (omega arith)) (done k (omega arith) inside)
      ]

  -- and none is greater than the instructions behind it allow
  pub rests_few : (most : ℕ) → v ≤ most → ((k : ℕ) → get_or rest k 0 ≤ most) → (k : ℕ) → get_or (set rest at v) k 0 ≤ most
  rests_few most few each k = elim (cases_eq k at) [
    | inl same ↦ elim (cases_lt at (length rest)) [
      | inl within ↦ let is : get_or (set rest at v) at 0 ≡ v = get_or-set_same rest at v 0 within in subst (λ n. get_or (set rest at v) n 0 ≤ most) (sym same) (omega arith)
      | inr past ↦ let is = set_past rest at v past in subst (λ (l : List ℕ). get_or l k 0 ≤ most) (sym is) (each k)
    ]
    | inr other ↦ let is : get_or (set rest at v) k 0 ≡ get_or rest k 0 = get_or-set_other rest at k v 0 other in let few = each k in omega arith
  ]

-- the greatest rest behind an instruction
pub behind_few : (rest : List ℕ) (at most : ℕ) (instr : Instr) → ((k : ℕ) → get_or rest k 0 ≤ most) → rest_behind rest at instr ≤ most
behind_few rest at most instr each = by_parts (ends_code instr) (target_of instr)
  where
    by_target : (n : ℕ) (o : Option ℕ) → n ≤ most → max n (elim o as (λ _. ℕ) [ None ↦ 0 | Some i ↦ get_or rest i 0 ]) ≤ most
    by_target n None le = omega arith
    by_target n (Some i) le = let few = each i in omega arith

    by_parts : (ends : Bool) (o : Option ℕ) → max (if ends then 0 else get_or rest (at + 1) 0) (elim o as (λ _. ℕ) [ None ↦ 0 | Some i ↦ get_or rest i 0 ]) ≤ most
    by_parts true o = by_target 0 o (omega arith)
    by_parts false o = by_target (get_or rest (at + 1) 0) o (each (at + 1))

-- when all are set
pub rests_all : (task : Task) (rest : List ℕ) → length rest ≡ length task.code → ((k : ℕ) → k < length task.code → is_rest task rest k ≡ true) → are_rests task rest ≡ true
rests_all task rest long each = and_from _ _ (eq-eqb _ _ long) (below_from (is_rest task rest) (length task.code) each)

-- the rest of an offset
pub rest_at : (task : Task) (rest : List ℕ) (at : ℕ) → are_rests task rest ≡ true → at < length task.code → get_or rest at 0 ≡ weight (instr_at task at) + rest_behind rest at (instr_at task at)
rest_at task rest at all inside =
    let parts = and_parts _ _ all in
    eqb-true _ _ (below_each (is_rest task rest) (length task.code) parts.1 at inside)
