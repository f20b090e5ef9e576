-- Elements of lists.
use Rattle.std.proofs.Common.{◌≡◌, ◌⊎◌, inl, inr, ℕ, zero, suc, ◌+◌, ◌≤◌, List, [], ◌∷◌, ◌++◌, map, get_or, length, refl, sym, subst, arith}
use mathlib.Core.Option.{some, some-ne-none, some-injective}
use lib.ListN.{get_elem?}

-- an element of a mapped list is that of one of the list
pub unmapped : {A B : Type 0} (f : A → B) (xs : List A) (n : ℕ) (b : B) → get_elem? (map f xs) n ≡ some b → (a : A) × (get_elem? xs n ≡ some a) × (f a ≡ b)
unmapped f [] n b at = absurd (some-ne-none b (sym at))
unmapped f (x ∷ xs) zero b at = (x, refl, some-injective (f x) b at)
unmapped f (x ∷ xs) (suc n) b at = unmapped f xs n b at

-- behind the end there is the default
pub get_past : {A : Type 0} (xs : List A) (n : ℕ) (d : A) → length xs ≤ n → get_or xs n d ≡ d
get_past [] n d le = refl
get_past (x ∷ xs) zero d le = absurd (omega arith)
get_past (x ∷ xs) (suc n) d le = get_past xs n d (omega arith)

-- lists of one length with the same elements
pub same_lists : {A : Type 0} (xs ys : List A) → length xs ≡ length ys → ((n : ℕ) (y : A) → get_elem? ys n ≡ some y → get_elem? xs n ≡ some y) → xs ≡ ys
same_lists [] [] is h = refl
same_lists [] (y ∷ ys) is h = absurd (omega (arith, is))
same_lists (x ∷ xs) [] is h = absurd (omega (arith, is))
same_lists {A} (x ∷ xs) (y ∷ ys) is h =
    let first : x ≡ y = some-injective x y (h 0 y refl) in
    let rest : xs ≡ ys = same_lists xs ys (omega (arith, is)) (λ n z at. h (suc n) z at) in
    λ j. first j ∷ rest j

-- an element of two lists joined is one of the first or of the second
pub at_parts : {A : Type 0} (xs ys : List A) (n : ℕ) (x : A) → get_elem? (xs ++ ys) n ≡ some x → (get_elem? xs n ≡ some x) ⊎ ((m : ℕ) × (get_elem? ys m ≡ some x) × (n ≡ length xs + m))
at_parts [] ys n x at = inr (n, at, omega arith)
at_parts (y ∷ xs) ys zero x at = inl at
at_parts (y ∷ xs) ys (suc n) x at = elim (at_parts xs ys n x at) [ inl front ↦ inl front | inr back ↦ inr (back.0, back.1, omega (arith, back.2)) ]

pub at_behind : {A : Type 0} (xs ys : List A) (m : ℕ) (x : A) → get_elem? ys m ≡ some x → get_elem? (xs ++ ys) (length xs + m) ≡ some x
at_behind [] ys m x at = subst (λ (n : ℕ). get_elem? ys n ≡ some x) (let same : m ≡ 0 + m = omega arith in same) at
at_behind (y ∷ xs) ys m x at = subst (λ (n : ℕ). get_elem? (y ∷ xs ++ ys) n ≡ some x) (let same : suc (length xs + m) ≡ suc (length xs) + m = omega arith in same) (at_behind xs ys m x at)
