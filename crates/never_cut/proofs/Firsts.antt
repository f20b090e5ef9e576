-- Searches among numbers that go on behind one.
use Rattle.never_cut.proofs.Common.{◌≡◌, ℕ, suc, ◌+◌, ◌-◌, ◌<◌, Bool, true, false, refl, sym, ◌∙◌, arith, Some, first_number}

pub first_number_skips : (test : ℕ → Bool) (at left more : ℕ) → left ≡ suc more → test at ≡ false → first_number test at left ≡ first_number test (at + 1) more
first_number_skips test at left more count fails = rw (count, fails) refl

pub first_number_finds : (test : ℕ → Bool) (at left more : ℕ) → left ≡ suc more → test at ≡ true → first_number test at left ≡ Some at
first_number_finds test at left more count holds = rw (count, holds) refl

-- a search among the numbers below n that came to q finds it
pub found : (test : ℕ → Bool) (n q : ℕ) → q < n → first_number test 0 n ≡ first_number test q (n - q) → test q ≡ true →
    Some q ≡ first_number test 0 n
found test n q within so_far holds =
    let count : n - q ≡ suc (n - (q + 1)) = omega arith in
    sym (so_far ∙ first_number_finds test q (n - q) (n - (q + 1)) count holds)

-- or goes on behind it
pub passed_over : (test : ℕ → Bool) (n q : ℕ) → q < n → first_number test 0 n ≡ first_number test q (n - q) → test q ≡ false →
    first_number test 0 n ≡ first_number test (q + 1) (n - (q + 1))
passed_over test n q within so_far fails =
    let count : n - q ≡ suc (n - (q + 1)) = omega arith in
    so_far ∙ first_number_skips test q (n - q) (n - (q + 1)) count fails
