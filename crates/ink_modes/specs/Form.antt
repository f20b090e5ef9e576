-- What a mode is.
use Rattle.std.specs.Prelude.{◌≡◌, ℕ, Bool, true, false, List, Option, None, IsSome, Result}
use Rattle.ink_base.specs.Lines.{Word}
use Rattle.ink_base.specs.declared.fault.JobFault.{JobFault}
use Rattle.ink_report.specs.declared.flags.Flags.{Flags}
use Rattle.ink_modes.specs.declared.command.Allowed.{Allowed}
use Rattle.ink_modes.specs.declared.given.Given.{Given}
use Rattle.ink_modes.specs.declared.finish.Record.{Record}

-- a flag is there only where it is allowed
abbrev pub FitsFlag : Bool → Bool → Type 0
FitsFlag true given = Unit {0}
FitsFlag false given = given ≡ false

-- a seed is there exactly where it is allowed
abbrev pub FitsSeed : Bool → Option ℕ → Type 0
FitsSeed true seed = IsSome seed
FitsSeed false seed = seed ≡ None

-- these flags are allowed, and none is wanted besides
pub record IsAllowed (allowed : Allowed) (flags : Flags) : Type 0 where
  pub journal : FitsFlag allowed.journal flags.journal
  pub json : FitsFlag allowed.json flags.json
  pub bounds : FitsFlag allowed.bounds flags.bounds
  pub image : FitsFlag allowed.image flags.image
  pub seed : FitsSeed allowed.seed flags.seed

-- A mode: its word on the command line, the flags that it may have, what a text gives to it or the fault with which it refuses the text, the records
-- that it may make of that, and the text of a record. A mode with a seed is given the job that is generated from it, and one without a seed what the text
-- from the source gives.
pub record ModeForm : Type 1 where
  pub word : Word
  pub allowed : Allowed
  pub gives : List ℕ → Result Given JobFault → Type 0
  pub makes : Given → Record → Type 0
  pub text : Flags → Given → Record → List ℕ
