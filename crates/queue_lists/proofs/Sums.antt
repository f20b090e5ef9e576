-- Sums over the sources.
use Rattle.std.proofs.Common.{◌≡◌, ℕ, zero, suc, ◌+◌, ◌<◌, ◌≤◌, ap, arith, inl, inr}
use Rattle.std.proofs.lemmas.Bool.{cases_lt}
use Rattle.queue_lists.specs.Lists.{sum_below}

-- one source more
pub sum_next : (f : ℕ → ℕ) (n : ℕ) → sum_below f (n + 1) ≡ sum_below f n + f n
sum_next f n = ap (sum_below f) (let same : n + 1 ≡ suc n = omega arith in same)

pub sum_more : (f : ℕ → ℕ) (n m : ℕ) → n ≤ m → sum_below f n ≤ sum_below f m
sum_more f n zero le = let none : n ≡ 0 = omega arith in omega (arith, ap (sum_below f) none)
sum_more f n (suc m) le = elim (cases_lt n (suc m)) [
  | inl lt ↦ let rest = sum_more f n m (omega arith) in omega (arith, rest)
  | inr ge ↦ let all : n ≡ suc m = omega arith in omega (arith, ap (sum_below f) all)
]

pub sum_le : (f g : ℕ → ℕ) (n : ℕ) → ((i : ℕ) → i < n → f i ≤ g i) → sum_below f n ≤ sum_below g n
sum_le f g zero h = omega arith
sum_le f g (suc n) h = let rest = sum_le f g n (λ i lt. h i (omega arith)) in let last = h n (omega arith) in omega (arith, rest, last)

pub sum_same : (f g : ℕ → ℕ) (n : ℕ) → ((i : ℕ) → i < n → f i ≡ g i) → sum_below f n ≡ sum_below g n
sum_same f g zero h = omega arith
sum_same f g (suc n) h = let rest = sum_same f g n (λ i lt. h i (omega arith)) in let last = h n (omega arith) in omega (arith, rest, last)
