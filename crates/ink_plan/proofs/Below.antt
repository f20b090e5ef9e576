-- What holds of each number below a count, and a loop that tries it.
use Rattle.std.proofs.Common.{◌≡◌, ℕ, zero, suc, ◌+◌, ◌<◌, Bool, true, false, refl, ap, ◌∙◌, inl, inr, arith, add-one}
use Rattle.std.proofs.lemmas.Bool.{and_parts, cases_lt}
use Rattle.ink_plan.specs.Code.{all_below}

pub below_zero : (test : ℕ → Bool) → all_below test 0 ≡ true
unfolding all_below
below_zero test = refl

pub below_more : (test : ℕ → Bool) (n : ℕ) → all_below test n ≡ true → test n ≡ true → all_below test (n + 1) ≡ true
unfolding all_below
below_more test n front here = rw (add-one, front, here) refl

-- a number that fails, and the count above it
pub below_not : (test : ℕ → Bool) (n count : ℕ) → all_below test n ≡ true → test n ≡ false → n < count → all_below test count ≡ false
unfolding all_below
below_not test n zero front here lt = absurd (omega arith)
below_not test n (suc count) front here lt =
    elim (cases_lt n count) [
      | inl below ↦ rw (below_not test n count front here below) refl
      | inr last ↦ let is : n ≡ count = omega arith in rw (← is, front, here) refl
    ]

-- each number below the count
pub below_each : (test : ℕ → Bool) (count : ℕ) → all_below test count ≡ true → (n : ℕ) → n < count → test n ≡ true
unfolding all_below
below_each test zero all n lt = absurd (omega arith)
below_each test (suc count) all n lt =
    let parts = and_parts _ _ all in
    elim (cases_lt n count) [
      | inl below ↦ below_each test count parts.0 n below
      | inr last ↦ let is : n ≡ count = omega arith in ap test is ∙ parts.1
    ]

-- and from each of them
pub below_from : (test : ℕ → Bool) (count : ℕ) → ((n : ℕ) → n < count → test n ≡ true) → all_below test count ≡ true
unfolding all_below
below_from test zero each = refl
below_from test (suc count) each = rw (below_from test count (λ n lt. each n (omega arith)), each count (omega arith)) refl
