-- Numbers as words.
use Rattle.std.specs.Prelude.{ℕ, ◌+◌, ◌-◌, ◌*◌, Bool, ◌&&◌, length, Option, Some, None, fold, nat_le, if◌then◌else◌}
use Rattle.std.specs.List.{list_all}
use Rattle.ink_base.specs.Lines.{Word}

-- 0 to 9
abbrev pub is_digit : ℕ → Bool
is_digit b = nat_le 48 b && nat_le b 57

-- 1 to 10 decimal digits; leading zeros are allowed
abbrev pub is_number : Word → Bool
is_number w = nat_le 1 (length w) && nat_le (length w) 10 && list_all is_digit w

-- what the digits say
abbrev pub value : Word → ℕ
value w = fold (λ n b. 10 * n + (b - 48)) 0 w

-- what a word says as a number; none where it is no number
abbrev pub number_said : Word → Option ℕ
number_said w = if is_number w then Some (value w) else None
