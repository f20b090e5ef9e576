-- How many numbers below one meet a test.
use Rattle.priority_sched.proofs.Common.{◌≡◌, ℕ, zero, suc, ◌<◌, ◌≤◌, Bool, true, false, arith, inl, inr, cases_Bool, cases_eq}
use Rattle.priority_sched.specs.kept.LeftMost.{count}

-- all of them at most
pub count-most : (test : ℕ → Bool) (n : ℕ) → count test n ≤ n
count-most test zero = omega arith
count-most test (suc n) =
    let below : count test n ≤ n = count-most test n in
    elim (cases_Bool (test n)) [ inl met ↦ rw met (omega arith) | inr unmet ↦ rw unmet (omega arith) ]

-- a test that is met more seldom counts no more
pub count-less : (f g : ℕ → Bool) (n : ℕ) → ((k : ℕ) → k < n → f k ≡ true → g k ≡ true) → count f n ≤ count g n
count-less f g zero less = omega arith
count-less f g (suc n) less =
    let below : count f n ≤ count g n = count-less f g n (λ k lt. less k (omega arith)) in
    elim (cases_Bool (f n)) [
      | inl met ↦ let also : g n ≡ true = less n (omega arith) met in rw (met, also) (omega arith)
      | inr unmet ↦ elim (cases_Bool (g n)) [ inl more ↦ rw (unmet, more) (omega arith) | inr none ↦ rw (unmet, none) (omega arith) ]
    ]

-- and fewer where one number meets the other test alone
pub count-fewer : (f g : ℕ → Bool) (n at : ℕ) → at < n → f at ≡ false → g at ≡ true → ((k : ℕ) → k < n → f k ≡ true → g k ≡ true) → count f n < count g n
count-fewer f g zero at lt out within less = absurd (omega arith)
count-fewer f g (suc n) at lt out within less =
    elim (cases_eq n at) [
      | inl same ↦ let below : count f n ≤ count g n = count-less f g n (λ k lt. less k (omega arith)) in rw (same, out, within) (rw (← same) (omega arith))
      | inr other ↦
          let below : count f n < count g n = count-fewer f g n at (omega arith) out within (λ k lt. less k (omega arith)) in
          elim (cases_Bool (f n)) [
            | inl met ↦ let also : g n ≡ true = less n (omega arith) met in rw (met, also) (omega arith)
            | inr unmet ↦ elim (cases_Bool (g n)) [ inl more ↦ rw (unmet, more) (omega arith) | inr none ↦ rw (unmet, none) (omega arith) ]
          ]
    ]

-- or where one doesn't meet the test at all
pub count-some : (f : ℕ → Bool) (n at : ℕ) → at < n → f at ≡ false → count f n < n
count-some f zero at lt out = absurd (omega arith)
count-some f (suc n) at lt out =
    elim (cases_eq n at) [
      | inl same ↦ let below : count f n ≤ n = count-most f n in let none : f n ≡ false = rw same out in rw none (omega arith)
      | inr other ↦
          let below : count f n < n = count-some f n at (omega arith) out in
          elim (cases_Bool (f n)) [ inl met ↦ rw met (omega arith) | inr unmet ↦ rw unmet (omega arith) ]
    ]
