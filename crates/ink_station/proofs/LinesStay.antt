-- The lines of a part of a text.
use Rattle.std.proofs.Common.{◌≡◌, ℕ, zero, suc, ◌+◌, ◌-◌, ◌≤◌, eqb, List, [], ◌∷◌, ◌++◌, take, drop, replicate, slice_range, refl, sym, ap, ◌∙◌, inl, inr, arith}
use Rattle.std.proofs.lemmas.Bool.{cases_Bool}
use Rattle.ink_base.specs.Lines.{lines, onto_first}
use Rattle.ink_station.specs.Parts.{lines_len, LinesStay}

-- in front stand empty lines
empty_lines : (count : ℕ) (text : List ℕ) → lines (replicate count 10 ++ text) ≡ replicate count [] ++ lines text
empty_lines zero text = refl
empty_lines (suc k) text = ap (λ (ls : List (List ℕ)). [] ∷ ls) (empty_lines k text)

drop_onto : (k b : ℕ) (ls : List (List ℕ)) → drop (suc k) (onto_first b ls) ≡ drop (suc k) ls
drop_onto zero b [] = refl
drop_onto (suc k) b [] = refl
drop_onto k b (l ∷ ls) = refl

-- the lines behind the first so many
lines_behind : (count : ℕ) (text : List ℕ) → lines (drop (lines_len count text) text) ≡ drop count (lines text)
lines_behind zero text = refl
lines_behind (suc k) [] = refl
lines_behind (suc k) (b ∷ bytes) = elim (cases_Bool (eqb b 10)) [
  | inl t ↦ rw t (lines_behind k bytes)
  | inr f ↦ rw f (lines_behind (suc k) bytes ∙ sym (drop_onto k b (lines bytes)))
]

take_onto : (k b : ℕ) (ls : List (List ℕ)) → onto_first b (take (suc k) ls) ≡ take (suc k) (onto_first b ls)
take_onto zero b [] = refl
take_onto (suc k) b [] = refl
take_onto k b (l ∷ ls) = refl

-- the first so many lines
first_lines : (count : ℕ) (text : List ℕ) → lines (take (lines_len count text) text) ≡ take count (lines text)
first_lines zero text = refl
first_lines (suc k) [] = refl
first_lines (suc k) (b ∷ bytes) = elim (cases_Bool (eqb b 10)) [
  | inl t ↦ rw t (ap (λ (ls : List (List ℕ)). [] ∷ ls) (first_lines k bytes))
  | inr f ↦ rw f (ap (onto_first b) (first_lines (suc k) bytes) ∙ take_onto k b (lines bytes))
]

no_bytes : (count : ℕ) → lines_len count [] ≡ 0
no_bytes zero = refl
no_bytes (suc k) = refl

-- the bytes of lines, and of more lines behind them
more_lines : (count more all : ℕ) (text : List ℕ) → all ≡ count + more → lines_len all text ≡ lines_len count text + lines_len more (drop (lines_len count text) text)
more_lines zero more all text is = let e = ap (λ n. lines_len n text) (let same : all ≡ more = omega (arith, is) in same) in omega (arith, e)
more_lines (suc k) more zero text is = absurd (omega (arith, is))
more_lines (suc k) more (suc j) [] is = omega (arith, no_bytes more)
more_lines (suc k) more (suc j) (b ∷ bytes) is = elim (cases_Bool (eqb b 10)) [
  | inl t ↦ rw t (omega (arith, more_lines k more j bytes (omega (arith, is))))
  | inr f ↦ rw f (omega (arith, more_lines (suc k) more (suc j) bytes is))
]

-- the lines between two
lines_between : (text : List ℕ) (low high : ℕ) → low ≤ high → lines (slice_range text (lines_len low text) (lines_len high text)) ≡ take (high - low) (drop low (lines text))
lines_between text low high le =
    let behind = drop (lines_len low text) text in
    let count : lines_len high text - lines_len low text ≡ lines_len (high - low) behind = omega (arith, more_lines low (high - low) high text (omega (arith, le))) in
    ap (λ n. lines (take n behind)) count ∙ first_lines (high - low) behind ∙ ap (take (high - low)) (lines_behind low text)

pub lines_stay : LinesStay
lines_stay text part above =
    empty_lines part.header (slice_range text (lines_len part.header text) (lines_len (part.stop - 1) text))
    ∙ ap (λ (ls : List (List ℕ)). replicate part.header [] ++ ls) (lines_between text part.header (part.stop - 1) (omega (arith, above)))
