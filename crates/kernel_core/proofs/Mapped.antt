-- A loop that changes each element of a vector in its place.
use Rattle.kernel_core.proofs.Common.{◌≡◌, ℕ, zero, suc, ◌+◌, ◌<◌, ◌≤◌, List, [], ◌∷◌, ◌++◌, length, map, take, drop, get_or, set, refl, ap, subst, arith}

-- one more element
pub mapped_more : {X : Type 0} (f : X → X) (none : X) (xs : List X) (i : ℕ) → i < length xs →
    set (map f (take i xs) ++ drop i xs) i (f (get_or (map f (take i xs) ++ drop i xs) i none)) ≡ map f (take (i + 1) xs) ++ drop (i + 1) xs
mapped_more f none xs i lt =
    let e : suc i ≡ i + 1 = omega arith in
    subst (λ n. set (map f (take i xs) ++ drop i xs) i (f (get_or (map f (take i xs) ++ drop i xs) i none)) ≡ map f (take n xs) ++ drop n xs) e (one_more f none xs i lt)
  where
    one_more : {X : Type 0} (f : X → X) (none : X) (xs : List X) (i : ℕ) → i < length xs →
        set (map f (take i xs) ++ drop i xs) i (f (get_or (map f (take i xs) ++ drop i xs) i none)) ≡ map f (take (suc i) xs) ++ drop (suc i) xs
    one_more f none [] i lt = absurd (omega arith)
    one_more f none (x ∷ xs) zero lt = refl
    one_more f none (x ∷ xs) (suc i) lt = ap (λ l. f x ∷ l) (one_more f none xs i (omega arith))

-- all elements
pub mapped_all : {X : Type 0} (f : X → X) (xs : List X) (i : ℕ) → length xs ≤ i → map f (take i xs) ++ drop i xs ≡ map f xs
mapped_all f [] zero le = refl
mapped_all f [] (suc i) le = refl
mapped_all f (x ∷ xs) zero le = absurd (omega arith)
mapped_all f (x ∷ xs) (suc i) le = ap (λ l. f x ∷ l) (mapped_all f xs i (omega arith))
