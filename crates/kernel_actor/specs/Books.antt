-- The account of a kernel while it is written.
use Rattle.std.specs.Prelude.{◌≡◌, ℕ, ◌-◌, ◌<◌, ◌≤◌, Bool, true, false, List, [], ◌∷◌, ◌++◌, length, slice_index}
use Rattle.kernel_account.specs.declared.entry.KernelEntry.{KernelEntry}

-- The entries of the charges that are over and of the charge at hand, if one has begun; how many entries more it has room for; and for how many
-- the later charges have, the next one last.
pub record Book : Type 0 where
  pub done : List (List KernelEntry)
  pub entries : List KernelEntry
  pub begun : Bool
  pub spare : ℕ
  pub rooms : List ℕ

-- the charges that have begun
abbrev pub charges_by : Bool → List (List KernelEntry) → List KernelEntry → List (List KernelEntry)
charges_by false done entries = done
charges_by true done entries = done ++ entries ∷ []

-- those of an account
abbrev pub charges_in : Book → List (List KernelEntry)
charges_in book = charges_by book.begun book.done book.entries

-- the charges with these budgets have room for an entry of each access, the first one last
pub record HaveRoom (budgets rooms : List ℕ) : Type 0 where
  pub count : length rooms ≡ length budgets
  pub each : (k : ℕ) → k < length budgets → slice_index budgets (length budgets - 1 - k) ≤ slice_index rooms k
