-- How many readings the sources of a queue haven't settled.
use Rattle.std.proofs.Common.{◌≡◌, ℕ, zero, suc, ◌+◌, ◌-◌, ◌*◌, ◌<◌, ◌≤◌, ◌==◌, Bool, true, false, List, cond, length, sym, ap, ◌∙◌, subst, arith, inl, inr}
use Rattle.std.proofs.lemmas.Bool.{cases_eq, eq-eqb}
use Rattle.push_core.specs.Queue.{Source, unsettled_into}

-- a source that has settled more has fewer left
less_left : (b : Bool) (n next old : ℕ) → old ≤ next → cond b (n - next) 0 ≤ cond b (n - old) 0
less_left true n next old h = omega arith
less_left false n next old h = omega arith

module _ (queue_of : ℕ → ℕ) (readings : ℕ → List ℕ) (old new : ℕ → Source) (t : ℕ) where
  -- no more where no source has settled fewer
  pub unsettled_least : (n : ℕ) → ((i : ℕ) → (old i).next ≤ (new i).next) → unsettled_into queue_of readings new t n ≤ unsettled_into queue_of readings old t n
  unsettled_least zero more = omega arith
  unsettled_least (suc n) more =
      let here = less_left (queue_of n == t) (length (readings n)) (new n).next (old n).next (more n) in
      omega (arith, here, unsettled_least n more)

  -- at least one less where one of its sources settles one more
  pub unsettled_one : (n i : ℕ) → i < n → queue_of i ≡ t → (new i).next ≡ (old i).next + 1 → (old i).next < length (readings i) →
      ((j : ℕ) → (old j).next ≤ (new j).next) → unsettled_into queue_of readings new t n + 1 ≤ unsettled_into queue_of readings old t n
  unsettled_one zero i lt of one left more = absurd (omega arith)
  unsettled_one (suc n) i lt of one left more =
      elim (cases_eq n i) [
        | inl same ↦
            let size : ℕ = length (readings n) in
            let is : (queue_of n == t) ≡ true = eq-eqb _ _ (ap queue_of same ∙ of) in
            let now : cond (queue_of n == t) (size - (new n).next) 0 ≡ size - (new n).next = ap (λ (b : Bool). cond b (size - (new n).next) 0) is in
            let was : cond (queue_of n == t) (size - (old n).next) 0 ≡ size - (old n).next = ap (λ (b : Bool). cond b (size - (old n).next) 0) is in
            let here : ((new n).next ≡ (old n).next + 1) × ((old n).next < length (readings n)) =
            subst (λ (k : ℕ). ((new k).next ≡ (old k).next + 1) × ((old k).next < length (readings k))) (sym same) (one, left)
            in
            omega (arith, now, was, here.0, here.1, unsettled_least n more)
        | inr apart ↦
            let here = less_left (queue_of n == t) (length (readings n)) (new n).next (old n).next (more n) in
            omega (arith, here, unsettled_one n i (omega arith) of one left more)
      ]

-- at most so many of each
pub unsettled_bound : (queue_of : ℕ → ℕ) (readings : ℕ → List ℕ) (source : ℕ → Source) (t n most : ℕ) → ((i : ℕ) → length (readings i) ≤ most) →
    unsettled_into queue_of readings source t n ≤ n * most
unsettled_bound queue_of readings source t zero most h = omega arith
unsettled_bound queue_of readings source t (suc n) most h =
    let here : cond (queue_of n == t) (length (readings n) - (source n).next) 0 ≤ most = by_test (queue_of n == t) in
    omega (arith, unsettled_bound queue_of readings source t n most h, here)
  where
    by_test : (b : Bool) → cond b (length (readings n) - (source n).next) 0 ≤ most
    by_test true = let most = h n in omega arith
    by_test false = omega arith
