-- Items before a place of a list, none of which passes a test or has a name.
use Rattle.prog_check.proofs.Common.{◌≡◌, ◌≢◌, ℕ, ◌<◌, Bool, true, false, List, length, get_or, take, sym, ap, ◌∙◌, inl, inr, arith, get_or-take, length-take, length-take-le, list_any, bytes_eq, cases_Bool, false_from_ne_true, false≢true, list_any_at, list_any_none, bytes_eq-Decides, AreDistinct}
use Rattle.std.proofs.lemmas.List.{get_or_default}

-- an item before a place whose test fails at each item before it
pub untaken : {X : Type 0} (test : X → Bool) (xs : List X) (i k : ℕ) (d : X) → i < k → k < length xs → list_any test (take k xs) ≡ false → test (get_or xs i d) ≡ false
untaken test xs i k d below within none =
    elim (cases_Bool (test (get_or xs i d))) [
      | inl passes ↦ absurd (false≢true (sym none ∙ list_any_at test (take k xs) i d (rw (length-take k xs) (omega arith)) (ap test (get_or-take k xs i d below) ∙ passes)))
      | inr fails ↦ fails
    ]

-- no item before a place passes a test that each of them fails
pub none_before : {X : Type 0} (test : X → Bool) (xs : List X) (d : X) (i : ℕ) → i < length xs → ((k : ℕ) → k < i → test (get_or xs k d) ≡ false) → list_any test (take i xs) ≡ false
none_before test xs d i lt h =
    list_any_none test (take i xs) (λ k e below.
    let size : length (take i xs) ≡ i = length-take-le i xs (omega arith) in
    let small : k < i = omega (arith, size) in
    ap test (get_or-take i xs k e small ∙ get_or_default xs k e d (omega arith)) ∙ h k small)

pub names_differ : (v w : List ℕ) → bytes_eq v w ≡ false → v ≢ w
names_differ v w h e = absurd (false≢true (sym h ∙ (bytes_eq-Decides v w).1 e))

pub differ : (v w : List ℕ) → v ≢ w → bytes_eq v w ≡ false
differ v w h = false_from_ne_true (bytes_eq v w) (λ e. h ((bytes_eq-Decides v w).0 e))

-- no item before a place has its name, where names are distinct
pub fresh_before : {X : Type 0} (name : X → List ℕ) (xs : List X) (d : X) (i : ℕ) → i < length xs → AreDistinct (λ k. name (get_or xs k d)) (length xs)
    → list_any (λ x. bytes_eq (name x) (name (get_or xs i d))) (take i xs) ≡ false
fresh_before name xs d i lt apart =
    none_before (λ x. bytes_eq (name x) (name (get_or xs i d))) xs d i lt (λ k below. differ (name (get_or xs k d)) (name (get_or xs i d)) (apart k i below lt))
