-- The names of sources and actors.
use Rattle.std.specs.Prelude.{ℕ, ◌+◌, ◌-◌, ◌*◌, not, ◌&&◌, [], ◌∷◌, Option, Some, None, ◌==◌, nat_lt, codes, if◌then◌else◌}
use Rattle.std.specs.Option.{option_map}
use Rattle.std.specs.Str.{bytes_eq}
use Rattle.ink_base.specs.Lines.{Word}
use Rattle.ink_base.specs.Numbers.{is_digit}
use Rattle.ink_base.specs.declared.actor.Actor.{Actor}
use Rattle.ink_base.specs.declared.actor.Actor.TheVariants.{Kernel, Source, Clock}

-- the number of one digit, or of two digits of which the first isn't zero
abbrev pub index_of : Word → Option ℕ
index_of (d ∷ []) = if is_digit d then Some (d - 48) else None
index_of (d ∷ e ∷ []) = if is_digit d && is_digit e && not (d == 48) then Some (10 * (d - 48) + (e - 48)) else None
index_of _ = None

-- a number below a count
abbrev pub below : ℕ → Option ℕ → Option ℕ
below count None = None
below count (Some n) = if nat_lt n count then Some n else None

-- the source of a name, of so many: `S` and the source's number without leading zeros
abbrev pub source_of : ℕ → Word → Option ℕ
source_of count [] = None
source_of count (b ∷ digits) = if b == 83 then below count (index_of digits) else None

-- the kernel, the clock, or one of so many sources
abbrev pub actor_of : ℕ → Word → Option Actor
actor_of sources w =
    if bytes_eq w (codes "K") then Some Kernel else (if bytes_eq w (codes "T") then Some Clock else option_map (λ i. Source (record { 0 = i })) (source_of sources w))
