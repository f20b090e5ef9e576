-- Lists, tests and positions on a ring.
use Rattle.irq_source.proofs.Common.{◌≡◌, ◌≢◌, inl, inr, ℕ, zero, suc, ◌+◌, ◌%◌, ◌<◌, ◌≤◌, ◌&&◌, ◌||◌, Bool, true, false, List, [], ◌∷◌, ◌++◌, length, refl, sym, ap, arith, cases_lt, some, some-injective, some-ne-none, get_elem?, map, ◌⊎◌}
use Rattle.push_core.proofs.Rings.{same_position}

-- an element of a list stays where it is in a longer one
pub at_longer : {A : Type 0} (l more : List A) (i : ℕ) (x : A) → get_elem? l i ≡ some x → get_elem? (l ++ more) i ≡ some x
at_longer [] more i x is = absurd (some-ne-none x (sym is))
at_longer (y ∷ l) more zero x is = is
at_longer (y ∷ l) more (suc i) x is = at_longer l more i x is

-- the element that was put last
pub at_last : {A : Type 0} (l : List A) (x : A) → get_elem? (l ++ x ∷ []) (length l) ≡ some x
at_last [] x = refl
at_last (y ∷ l) x = at_last l x

-- an element of a mapped list
pub at_map : {A B : Type 0} (f : A → B) (l : List A) (i : ℕ) (x : A) → get_elem? l i ≡ some x → get_elem? (map f l) i ≡ some (f x)
at_map f [] i x at = absurd (some-ne-none x (sym at))
at_map f (y ∷ l) zero x at = ap (λ z. some (f z)) (some-injective y x at)
at_map f (y ∷ l) (suc i) x at = at_map f l i x at

-- a number below the next one
pub cases_less : (j k : ℕ) → j < k + 1 → (j < k) ⊎ (j ≡ k)
cases_less j k lt = elim (cases_lt j k) [ inl less ↦ inl less | inr ge ↦ inr (omega arith) ]

-- a later position with the same place is at least one turn away
pub turn_away : (n p q : ℕ) → p < q → p % n ≡ q % n → p + n ≤ q
turn_away n p q lt same =
    elim (cases_lt q (p + n)) [
      | inl near ↦ let one = same_position n p p q (omega arith) (omega arith) (omega arith) near same in absurd (omega arith)
      | inr far ↦ far
    ]

-- a position of the same place that isn't more than a turn before
pub same_slot : (n p q : ℕ) → p % n ≡ q % n → p ≤ q + n → p ≢ q + n → p ≤ q
same_slot n p q same near other =
    elim (cases_lt q p) [
      | inl lt ↦ let far = turn_away n q p lt (sym same) in absurd (other (omega arith))
      | inr ge ↦ omega arith
    ]

-- another one that isn't before
pub next_slot : (n p q : ℕ) → p % n ≡ q % n → p ≤ q → p ≢ q → p + n ≤ q
next_slot n p q same le other = elim (cases_lt p q) [ inl lt ↦ turn_away n p q lt same | inr ge ↦ absurd (other (omega arith)) ]

-- two counts of which one may be one less
pub same_count : {x y : ℕ} → x ≤ y + 1 → y ≤ x → x ≢ y + 1 → x ≡ y
same_count {x} {y} l m other = elim (cases_lt x (y + 1)) [ inl lt ↦ omega arith | inr ge ↦ absurd (other (omega arith)) ]

pub or_left : (a b : Bool) → (a || b) ≡ false → a ≡ false
or_left true b e = e
or_left false b e = refl

pub or_right : (a b : Bool) → (a || b) ≡ false → b ≡ false
or_right true b e = absurd cc
or_right false b e = e

pub and_left : (a b : Bool) → (a && b) ≡ true → a ≡ true
and_left true b e = refl
and_left false b e = absurd cc

pub and_right : (a b : Bool) → (a && b) ≡ true → b ≡ true
and_right true b e = e
and_right false b e = absurd cc
