-- Lists of numbers that have 32 bits.
use Rattle.never_cut.proofs.Common.{ℕ, zero, suc, ◌+◌, ◌^◌, ◌<◌, List, [], ◌∷◌, ◌++◌, replicate, set, arith, slice_index}

-- each number of a list
abbrev pub HaveBits : List ℕ → Type 0
HaveBits xs = (k : ℕ) → slice_index xs k < 2 ^ 32

-- zeros, a list with one number in another's place, and one with a number more
pub zeros_below : (n : ℕ) → HaveBits (replicate n 0)
zeros_below zero k = omega arith
zeros_below (suc n) zero = omega arith
zeros_below (suc n) (suc k) = zeros_below n k

pub set_below : (xs : List ℕ) (i v : ℕ) → v < 2 ^ 32 → HaveBits xs → HaveBits (set xs i v)
set_below [] i v fits h k = h k
set_below (x ∷ xs) zero v fits h zero = fits
set_below (x ∷ xs) zero v fits h (suc k) = h (suc k)
set_below (x ∷ xs) (suc i) v fits h zero = h 0
set_below (x ∷ xs) (suc i) v fits h (suc k) = set_below xs i v fits (λ j. h (suc j)) k

pub last_below : (xs : List ℕ) (v : ℕ) → v < 2 ^ 32 → HaveBits xs → HaveBits (xs ++ v ∷ [])
last_below [] v fits h zero = fits
last_below [] v fits h (suc k) = h k
last_below (x ∷ xs) v fits h zero = h 0
last_below (x ∷ xs) v fits h (suc k) = last_below xs v fits (λ j. h (suc j)) k
