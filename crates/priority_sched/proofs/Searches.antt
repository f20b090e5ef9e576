-- What a search for the first number that meets a test tells.
use Rattle.priority_sched.proofs.Common.{◌≡◌, ℕ, zero, suc, ◌+◌, ◌-◌, ◌<◌, ◌≤◌, Bool, true, false, Option, Some, None, arith, refl, sym, ap, ◌∙◌, inl, inr, subst, if◌then◌else◌, cases_eq, cases_lt, first_number}
use Rattle.never_cut.proofs.Firsts.{first_number_skips, first_number_finds}

-- the number meets the test and none before it does; or none does
abbrev pub IsSearched : (ℕ → Bool) → (at count : ℕ) → Option ℕ → Type 0
IsSearched test at count None = (k : ℕ) → at ≤ k → k < at + count → test k ≡ false
IsSearched test at count (Some n) = (at ≤ n) × (n < at + count) × (test n ≡ true) × ((k : ℕ) → at ≤ k → k < n → test k ≡ false)

-- the numbers from one on: it, and those behind it
from_here : (test : ℕ → Bool) (at k : ℕ) → test at ≡ false → at ≤ k → (at + 1 ≤ k → test k ≡ false) → test k ≡ false
from_here test at k here le behind = elim (cases_eq k at) [ inl e ↦ subst (λ z. test z ≡ false) (sym e) here | inr ne ↦ behind (omega arith) ]

behind : (test : ℕ → Bool) (at count : ℕ) (found : Option ℕ) → test at ≡ false → IsSearched test (at + 1) count found → IsSearched test at (suc count) found
behind test at count None here h = λ k le lt. from_here test at k here le (λ more. h k more (omega arith))
behind test at count (Some n) here h =
    let above : at + 1 ≤ n = h.0 in
    let below : n < at + 1 + count = h.1 in
    ((let e : at ≤ n = omega arith in e), (let e : n < at + suc count = omega arith in e), h.2, λ k le lt. from_here test at k here le (λ more. h.3 k more lt))

searched_by : (test : ℕ → Bool) (at count : ℕ) (b : Bool) → test at ≡ b → IsSearched test (at + 1) count (first_number test (at + 1) count) →
    IsSearched test at (suc count) (if b then Some at else first_number test (at + 1) count)
searched_by test at count true e h =
    ((let le : at ≤ at = omega arith in le), (let lt : at < at + suc count = omega arith in lt), e, λ k le lt. absurd (omega arith))
searched_by test at count false e h = behind test at count (first_number test (at + 1) count) e h

pub searched : (test : ℕ → Bool) (at count : ℕ) → IsSearched test at count (first_number test at count)
searched test at zero = λ k le lt. absurd (omega arith)
searched test at (suc count) = searched_by test at count (test at) refl (searched test (at + 1) count)

-- the first number of all that meets the test is found
pub search_finds : (test : ℕ → Bool) (count n : ℕ) → n < count → test n ≡ true → ((k : ℕ) → k < n → test k ≡ false) → first_number test 0 count ≡ Some n
search_finds test count n within holds before = by_found (first_number test 0 count) (searched test 0 count)
  where
    by_found : (found : Option ℕ) → IsSearched test 0 count found → found ≡ Some n
    by_found None h = absurd (let fails : test n ≡ false = h n (omega arith) (omega arith) in cc)
    by_found (Some k) h =
        elim (cases_eq k n) [
          | inl e ↦ ap (λ z. Some z) e
          | inr ne ↦ absurd (one_first k h ne)
        ]
      where
        one_first : (k : ℕ) → IsSearched test 0 count (Some k) → (k ≡ n → ⊥) → ⊥
        one_first k h ne =
            elim (cases_lt k n) [
              | inl lt ↦ let fails : test k ≡ false = before k lt in let meets : test k ≡ true = h.2 in cc
              | inr le ↦ let fails : test n ≡ false = h.3 n (omega arith) (omega arith) in cc
            ]

-- where none meets the test, none is found
pub search_none : (test : ℕ → Bool) (count : ℕ) → ((k : ℕ) → k < count → test k ≡ false) → first_number test 0 count ≡ None
search_none test count none = by_found (first_number test 0 count) (searched test 0 count)
  where
    by_found : (found : Option ℕ) → IsSearched test 0 count found → found ≡ None
    by_found None h = refl
    by_found (Some k) h = absurd (let fails : test k ≡ false = none k (let lt : k < 0 + count = h.1 in omega arith) in let meets : test k ≡ true = h.2 in cc)

-- a search from a number on, among those below n, that came to q ends there
pub search_ends : (test : ℕ → Bool) (from n q : ℕ) → q < n → first_number test from (n - from) ≡ first_number test q (n - q) → test q ≡ true →
    Some q ≡ first_number test from (n - from)
search_ends test from n q within so_far holds =
    let count : n - q ≡ suc (n - (q + 1)) = omega arith in
    sym (so_far ∙ first_number_finds test q (n - q) (n - (q + 1)) count holds)

-- or goes on behind it
pub search_goes_on : (test : ℕ → Bool) (from n q : ℕ) → q < n → first_number test from (n - from) ≡ first_number test q (n - q) → test q ≡ false →
    first_number test from (n - from) ≡ first_number test (q + 1) (n - (q + 1))
search_goes_on test from n q within so_far fails =
    let count : n - q ≡ suc (n - (q + 1)) = omega arith in
    so_far ∙ first_number_skips test q (n - q) (n - (q + 1)) count fails
