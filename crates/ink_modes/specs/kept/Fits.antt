-- What each mode is given.
use Rattle.ink_modes.specs.declared.given.Given.{Given}
use Rattle.ink_modes.specs.declared.modes.Mode.{Mode}
use Rattle.ink_modes.specs.declared.modes.Mode.TheVariants as mode
use Rattle.ink_modes.specs.Given.{IsAlone, HasClaim, HasScript, HasBoards}

-- the mode is given what it reads, within the limits
abbrev pub Fits : Mode → Given → Type 0
Fits mode.Run given = IsAlone given
Fits mode.Soak given = IsAlone given
Fits mode.Sweep given = IsAlone given
Fits mode.Print given = IsAlone given
Fits mode.Audit given = HasClaim given
Fits mode.Radio given = HasScript given
Fits mode.Station given = HasBoards given
Fits mode.Plan given = IsAlone given
