-- A list of the values at each number below a count, and one value more.
use Rattle.image_state.proofs.Common.{◌≡◌, ℕ, suc, ◌+◌, List, [], ◌∷◌, ◌++◌, ap, ◌∙◌, sym, arith, append_assoc, map-range_with_len_more, Memory, each_below, outputs_until, told_outputs}

pub each_more : {X : Type 0} (f : ℕ → X) (n : ℕ) → each_below f (n + 1) ≡ each_below f n ++ f n ∷ []
each_more f n = map-range_with_len_more f 0 n n (omega arith)

-- behind what stood there before
pub each_behind : {X : Type 0} (f : ℕ → X) (n : ℕ) (xs : List X) → (xs ++ each_below f n) ++ f n ∷ [] ≡ xs ++ each_below f (n + 1)
each_behind f n xs = append_assoc xs (each_below f n) (f n ∷ []) ∙ ap (λ l. xs ++ l) (sym (each_more f n))

-- the outputs of one thread more
pub until_more : (words : Memory) (n : ℕ) → outputs_until words (n + 1) ≡ outputs_until words n ++ told_outputs words n
until_more words n = ap (outputs_until words) (let one : n + 1 ≡ suc n = omega arith in one)
