-- Where two texts differ first.
use Rattle.std.specs.Prelude.{◌≡◌, ◌≢◌, ℕ, List, [], ◌∷◌, ◌==◌, take, slice_get, if◌then◌else◌}
use Rattle.ink_base.specs.Lines.{onto_first}

-- the lines of a text, each with the line feed that ends it; the last may have none
abbrev pub full_lines : List ℕ → List (List ℕ)
full_lines [] = []
full_lines (b ∷ bytes) = if b == 10 then (b ∷ []) ∷ full_lines bytes else onto_first b (full_lines bytes)

-- So many lines are the same, line feeds included, and the next one isn't; it may be missing in one of the texts.
pub record DifferBehind (a b : List ℕ) (n : ℕ) : Type 0 where
  pub same : take n (full_lines a) ≡ take n (full_lines b)
  pub next : slice_get (full_lines a) n ≢ slice_get (full_lines b) n
