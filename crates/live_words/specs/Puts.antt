-- Words that are put in the place of others.
use Rattle.std.specs.Prelude.{◌≡◌, ◌⊎◌, ℕ, ◌+◌, ◌<◌, ◌≤◌, List, length, slice_index}

-- these words stand from an address on, and all others are as they were
pub record IsPut (from : ℕ) (parts old new : List ℕ) : Type 0 where
  pub count : length new ≡ length old
  pub here : (k : ℕ) → k < length parts → slice_index new (from + k) ≡ slice_index parts k
  pub elsewhere : (n : ℕ) → (n < from) ⊎ (from + length parts ≤ n) → slice_index new n ≡ slice_index old n
