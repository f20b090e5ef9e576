-- The end of a list, one part after another.
use Rattle.ink_base.proofs.Common.{◌≡◌, ℕ, ◌+◌, ◌-◌, ◌≤◌, List, length, drop, sym, ap, ◌∙◌, arith, length-drop, drop-drop}
use Rattle.ink_base.specs.Suffix.{IsSuffix}

none : (n : ℕ) → n - n ≡ 0
none n = omega arith

pub IsSuffix-all : {A : Type 0} (xs : List A) → IsSuffix xs xs
IsSuffix-all xs = (omega arith, ap (λ n. drop n xs) (sym (none (length xs))))

pub IsSuffix-drop : {A : Type 0} (k : ℕ) (xs : List A) → k ≤ length xs → IsSuffix (drop k xs) xs
IsSuffix-drop k xs le =
    let n : length xs - length (drop k xs) ≡ k = omega (arith, length-drop k xs) in
    (omega (arith, length-drop k xs), ap (λ m. drop m xs) (sym n))

pub IsSuffix-then : {A : Type 0} (xs ys zs : List A) → IsSuffix xs ys → IsSuffix ys zs → IsSuffix xs zs
IsSuffix-then xs ys zs h k =
    let n : (length zs - length ys) + (length ys - length xs) ≡ length zs - length xs = omega (arith, h.0, k.0) in
    (omega (arith, h.0, k.0), h.1 ∙ ap (drop (length ys - length xs)) k.1 ∙ drop-drop (length ys - length xs) (length zs - length ys) zs ∙ ap (λ m. drop m zs) n)
