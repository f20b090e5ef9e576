-- One piece after another.
use Rattle.std.proofs.Common.{◌≡◌, ℕ, zero, suc, zero-add, suc-add, [], ◌∷◌, ◌+◌, List, ◌++◌, take, drop, sym, ap, ◌∙◌, arith}
use Rattle.std.proofs.lemmas.List.{take_all}

-- a longer front of a text
pub take-more : (n m : ℕ) (xs : List ℕ) → take n xs ++ take m (drop n xs) ≡ take (n + m) xs
take-more zero m xs = ap (λ (k : ℕ). take k xs) (sym (zero-add m))
take-more (suc n) m [] = take_all m [] (omega arith) ∙ sym (take_all (suc n + m) [] (omega arith))
take-more (suc n) m (x ∷ xs) = ap (λ (ys : List ℕ). x ∷ ys) (take-more n m xs) ∙ sym (ap (λ (k : ℕ). take k (x ∷ xs)) (suc-add n m))
