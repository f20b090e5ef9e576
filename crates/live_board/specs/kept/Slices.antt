-- Elements of a slice that change one after another.
use Rattle.std.specs.Prelude.{◌≡◌, ℕ, ◌<◌, ◌≤◌, List, length, slice_index_or}

-- so many of the first have changed as a relation says, and the others stand as they were
pub record AreChanged {A : Type 0} (R : A → A → Type 0) (count : ℕ) (old new : List A) : Type 0 where
  pub size : length new ≡ length old
  pub changed : (k : ℕ) (d : A) → k < length old → k < count → R (slice_index_or old k d) (slice_index_or new k d)
  pub others : (k : ℕ) (d : A) → count ≤ k → slice_index_or new k d ≡ slice_index_or old k d
