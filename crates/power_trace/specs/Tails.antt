-- The sections that may follow the power trace.
use Rattle.std.specs.Prelude.{ℕ, Bool, false, ◌&&◌, ◌||◌, not, List, [], ◌∷◌, Result, Err, ◌==◌, codes, if◌then◌else◌}
use Rattle.std.specs.Str.{bytes_eq}
use Rattle.ink_base.specs.Lines.{Word}
use Rattle.ink_base.specs.declared.fault.Cause.{Cause}
use Rattle.ink_base.specs.declared.fault.Cause.TheVariants.{Missing, BadSection}
use Rattle.ink_base.specs.Checks.{end_in}
use Rattle.power_trace.specs.declared.tails.Tails.{Tails}

-- nothing may follow
abbrev pub no_tails : Tails
no_tails = record { image1 = false; image2 = false; claim = false; radio = false }

-- the word is the header of a section that may follow
abbrev pub allows : Tails → Word → Bool
allows tails w =
    (tails.image1 && bytes_eq w (codes "[image1]"))
    || (tails.image2 && bytes_eq w (codes "[image2]"))
    || (tails.claim && bytes_eq w (codes "[claim]"))
    || (tails.radio && bytes_eq w (codes "[radio]"))

-- the header behind so many charges: of a section that may follow, not before the first charge, and alone in its line
unfoldable pub tail_header : Tails → (charges : ℕ) → List Word → Result (Unit {0}) Cause
tail_header tails charges [] = Err BadSection
tail_header tails charges (w ∷ ws) = if not (allows tails w) then Err BadSection else (if charges == 0 then Err Missing else end_in ws)
