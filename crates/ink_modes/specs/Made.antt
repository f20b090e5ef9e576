-- Of what a command makes what it makes.
use Rattle.std.specs.Prelude.{◌≡◌, ℕ, List, Option, Some, None, Ok}
use Rattle.power_trace.specs.Soak.{soak_of}
use Rattle.ink_io.specs.States.{SourceState}
use Rattle.ink_io.specs.Whole.{GaveText}
use Rattle.ink_modes.specs.declared.command.Command.{Command}
use Rattle.ink_modes.specs.declared.given.Given.{Given}
use Rattle.ink_modes.specs.declared.given.Given.TheVariants.{Job}
use Rattle.ink_modes.specs.declared.finish.Record.{Record}
use Rattle.ink_modes.specs.declared.modes.Mode.{Mode}
use Rattle.ink_modes.specs.modes.{form_of}

-- a text to the end of the source of which something holds
abbrev pub OfText : SourceState → SourceState → (List ℕ → Type 0) → Type 0
OfText before now P = (text : List ℕ) × GaveText before now text × P text

-- the job that is generated from a seed, and nothing is read; with no seed, what the source's text gives to the mode
abbrev pub Gave : Mode → Option ℕ → SourceState → SourceState → Given → Type 0
Gave mode (Some number) before now given = (now ≡ before) × (given ≡ Job (soak_of number))
Gave mode None before now given = OfText before now (λ text. (form_of mode).gives text (Ok given))

-- the record is one that the command's mode makes of what it is given, and this is its text
abbrev pub Makes : Command → SourceState → SourceState → Record → List ℕ → Type 0
Makes command before now made text =
    (given : Given) × Gave command.mode command.flags.seed before now given × (form_of command.mode).makes given made
    × (text ≡ (form_of command.mode).text command.flags given made)
