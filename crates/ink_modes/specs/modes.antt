-- All modes. A new one is a file in modes/, with a line for its file, one for what it is and a place in the list.
use Rattle.std.specs.Prelude.{List, [], ◌∷◌, Option, find}
use Rattle.std.specs.Str.{bytes_eq}
use Rattle.ink_base.specs.Lines.{Word}
use Rattle.ink_modes.specs.declared.modes.Mode.{Mode}
use Rattle.ink_modes.specs.declared.modes.Mode.TheVariants as mode
use Rattle.ink_modes.specs.Form.{ModeForm}
use Rattle.ink_modes.specs.modes.Run.{run}
use Rattle.ink_modes.specs.modes.Soak.{soak}
use Rattle.ink_modes.specs.modes.Sweep.{sweep}
use Rattle.ink_modes.specs.modes.Print.{print}
use Rattle.ink_modes.specs.modes.Audit.{audit}
use Rattle.ink_modes.specs.modes.Radio.{radio}
use Rattle.ink_modes.specs.modes.Station.{station}
use Rattle.ink_modes.specs.modes.Plan.{plan}
pub mod Run
pub mod Soak
pub mod Sweep
pub mod Print
pub mod Audit
pub mod Radio
pub mod Station
pub mod Plan

-- what each mode is
abbrev pub form_of : Mode → ModeForm
form_of mode.Run = run
form_of mode.Soak = soak
form_of mode.Sweep = sweep
form_of mode.Print = print
form_of mode.Audit = audit
form_of mode.Radio = radio
form_of mode.Station = station
form_of mode.Plan = plan

-- the mode whose word this is
abbrev pub mode_named : Word → Option Mode
mode_named word = find (λ m. bytes_eq word (form_of m).word) (mode.Run ∷ mode.Soak ∷ mode.Sweep ∷ mode.Print ∷ mode.Audit ∷ mode.Radio ∷ mode.Station ∷ mode.Plan ∷ [])
