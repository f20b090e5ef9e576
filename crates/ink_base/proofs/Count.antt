-- The number of lines, counted from the front.
use Rattle.ink_base.proofs.Common.{◌≡◌, ℕ, suc, ◌+◌, Bool, true, false, cond, eqb, List, [], ◌∷◌, length, refl, arith, onto_first, lines}

-- the lines that begin in the rest, where fresh says that one begins at once
abbrev pub more_lines : Bool → List ℕ → ℕ
more_lines fresh [] = 0
more_lines fresh (b ∷ bytes) = cond fresh 1 0 + more_lines (eqb b 10) bytes

length-onto : (x y : ℕ) (ls : List (List ℕ)) → length (onto_first x ls) ≡ length (onto_first y ls)
length-onto x y [] = refl
length-onto x y (l ∷ ls) = refl

length-onto_onto : (x y : ℕ) (ls : List (List ℕ)) → length (onto_first x (onto_first y ls)) ≡ length (onto_first x ls)
length-onto_onto x y [] = refl
length-onto_onto x y (l ∷ ls) = refl

-- both at once: from a line's beginning, and from within a line
both : (bytes : List ℕ) → (more_lines true bytes ≡ length (lines bytes)) × (suc (more_lines false bytes) ≡ length (onto_first 0 (lines bytes)))
both [] = (refl, refl)
both (b ∷ bytes) =
    let h = both bytes in
    elim (eqb b 10) as (λ e. (1 + more_lines e bytes ≡ length (cond e ([] ∷ lines bytes) (onto_first b (lines bytes)))) × (suc (0 + more_lines e bytes) ≡ length (onto_first 0 (cond e ([] ∷ lines bytes) (onto_first b (lines bytes)))))) [
      | true ↦ (omega (arith, h.0), omega (arith, h.0))
      | false ↦ (omega (arith, h.1, length-onto 0 b (lines bytes)), omega (arith, h.1, length-onto_onto 0 b (lines bytes)))
    ]

pub more_lines-is : (bytes : List ℕ) → more_lines true bytes ≡ length (lines bytes)
more_lines-is bytes = (both bytes).0
