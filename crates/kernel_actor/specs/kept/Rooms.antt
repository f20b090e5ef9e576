-- The lists in which later charges will be written.
use Rattle.std.specs.Prelude.{ℕ, Bool, true, false}

-- 1 where it is true
abbrev pub one_if : Bool → ℕ
one_if true = 1
one_if false = 0
