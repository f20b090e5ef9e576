-- Line feeds.
use Rattle.std.specs.Prelude.{ℕ, ◌+◌, Bool, List, [], ◌∷◌, ◌==◌, if◌then◌else◌}

-- a byte is a line feed
abbrev pub is_feed : ℕ → Bool
is_feed b = b == 10

-- how many there are
abbrev pub feeds : List ℕ → ℕ
feeds [] = 0
feeds (b ∷ bytes) = (if is_feed b then 1 else 0) + feeds bytes
