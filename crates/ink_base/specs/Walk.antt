-- Where a walk over the bytes of a text stands.
use Rattle.std.specs.Prelude.{ℕ, Option, Some, None, Bool, ◌||◌, ◌==◌, if◌then◌else◌}
use Rattle.ink_base.specs.declared.split.Place.{Place}
use Rattle.ink_base.specs.declared.split.Place.TheVariants.{Between, Word, Comment}
use Rattle.ink_base.specs.Lines.{is_blank}

-- a byte at which a word ends
abbrev pub ends_word : ℕ → Bool
ends_word b = b == 10 || b == 35 || is_blank b

-- the place behind a byte that doesn't end the line
abbrev pub within_line : Place → ℕ → ℕ → Place
within_line Comment b at = Comment
within_line (Word start) b at = if b == 35 then Comment else (if is_blank b then Between else Word start)
within_line Between b at = if b == 35 then Comment else (if is_blank b then Between else Word at)

-- the place behind the byte b at this offset
abbrev pub place_after : Place → ℕ → ℕ → Place
place_after place b at = if b == 10 then Between else within_line place b at

-- where the word began that ends at the byte b
abbrev pub closed : Place → ℕ → Option ℕ
closed (Word start) b = if ends_word b then Some start else None
closed Between b = None
closed Comment b = None
