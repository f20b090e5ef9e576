-- Accesses to a list of words.
use Rattle.std.specs.Prelude.{ℕ, ◌+◌, ◌^◌, ◌<◌, ◌==◌, List, replicate, slice_index, slice_set, if◌then◌else◌}
use Rattle.fram_words.specs.declared.access.Access.{Access}
use Rattle.fram_words.specs.declared.access.Access.TheVariants.{Load, Store, Exchange, Add}

-- the address that an access is made at
abbrev pub address_of : Access → ℕ
address_of (Load addr) = addr
address_of (Store addr word) = addr
address_of (Exchange addr expect new) = addr
address_of (Add addr by) = addr

-- the words after an access
abbrev pub performed : Access → List ℕ → List ℕ
performed (Load addr) words = words
performed (Store addr word) words = slice_set words addr word
performed (Exchange addr expect new) words = if slice_index words addr == expect then slice_set words addr new else words
performed (Add addr by) words = slice_set words addr (slice_index words addr + by)

-- a sum fits its word
abbrev pub FitsWords : List ℕ → Access → Type 0
FitsWords words (Add addr by) = slice_index words addr + by < 2 ^ 64
FitsWords words _ = Unit {0}

-- a new memory of so many words
abbrev pub zeros : ℕ → List ℕ
zeros n = replicate n 0
