-- The room of one more pipe.
use Rattle.never_cut.proofs.Common.{◌≡◌, ℕ, ◌+◌, ◌<◌, List, [], ◌∷◌, ◌++◌, length, take, map, get_or, ◌∙◌, ap, arith, length-take-le, enumerate_from, take_more, map-append}

enumerate_from-push : {X : Type 0} (n : ℕ) (xs : List X) (x : X) → enumerate_from n (xs ++ x ∷ []) ≡ enumerate_from n xs ++ (n + length xs, x) ∷ []
enumerate_from-push n [] x = let e : n ≡ n + 0 = omega arith in ap (λ k. (k, x) ∷ []) e
enumerate_from-push n (y ∷ ys) x =
    let count : n + 1 + length ys ≡ n + length (y ∷ ys) = omega arith in
    ap (λ rest. (n, y) ∷ rest) (enumerate_from-push (n + 1) ys x ∙ ap (λ k. enumerate_from (n + 1) ys ++ (k, x) ∷ []) count)

pub map-enumerate_from-more : {X Y : Type 0} (f : ℕ × X → Y) (xs : List X) (q : ℕ) (d : X) → q < length xs →
    map f (enumerate_from 0 (take (q + 1) xs)) ≡ map f (enumerate_from 0 (take q xs)) ++ f (q, get_or xs q d) ∷ []
map-enumerate_from-more f xs q d within =
    let count : 0 + length (take q xs) ≡ q = omega (arith, length-take-le q xs (omega arith)) in
    ap (λ ys. map f (enumerate_from 0 ys)) (take_more xs q d within)
    ∙ ap (map f) (enumerate_from-push 0 (take q xs) (get_or xs q d))
    ∙ map-append f (enumerate_from 0 (take q xs)) ((0 + length (take q xs), get_or xs q d) ∷ [])
    ∙ ap (λ k. map f (enumerate_from 0 (take q xs)) ++ f (k, get_or xs q d) ∷ []) count
