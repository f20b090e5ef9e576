-- What a scan keeps, and what it has found at its end.
use Rattle.std.specs.Prelude.{◌≡◌, ℕ, ◌<◌, length, Some, None}
use Rattle.task_isa.specs.declared.program.Program.{Program}
use Rattle.fram_words.specs.Places.{Memory, answer}
use Rattle.never_cut.specs.declared.model.Model.{Model}
use Rattle.never_cut.specs.declared.scan_model.ScanModel.{ScanModel}
use Rattle.never_cut.specs.Pending.{pending}
use Rattle.never_cut.specs.Entries.{Readings, IsCalm, IsPassed}
use Rattle.never_cut.specs.kept.Actors.{SamePrivate, Follows}
use Rattle.never_cut.specs.Within.{Lasts}
use Rattle.never_cut.specs.kept.Steps.{Background}
use Rattle.never_cut.specs.kept.Picked.{IsPicked}
use Rattle.priority_sched.specs.declared.machine.ScanMachine.{ScanMachine}
use Rattle.priority_sched.specs.declared.scanned.Scanned.{Scanned}
use Rattle.priority_sched.specs.declared.scanned.Scanned.TheVariants.{Pick, Quiet}
use Rattle.priority_sched.specs.Scan.{scan_begun, scan_result, scan_wants, IsScan, IsScanWord}
use Rattle.priority_sched.specs.Knows.{ScanHolds, ScanStep}

-- a scan may begin where no finished event is left
abbrev pub ScanBegins : Type 0
ScanBegins =
    (program : Program) (readings : Readings) (words : Memory) (m : Model) →
    Background program readings words m → IsCalm program m → ScanHolds program words m scan_begun

-- the registers, and the word that the wanted access finds, lie in their ranges
pub record IsInRange (program : Program) (words : Memory) (scan : ScanMachine) : Type 0 where
  pub row : IsScan program scan
  pub word : IsScanWord program scan.at (answer words (scan_wants program scan.thread.0 scan.at))

-- each access may be made, and is kept, while the numbers of items have 32 bits: a commit takes one item at most
abbrev pub ScanKeeps : Type 0
ScanKeeps =
    (program : Program) (readings : Readings) (words : Memory) (m : Model) (scan : ScanMachine) →
    Background program readings words m → Lasts 0 m → ScanHolds program words m scan →
    IsInRange program words scan × ScanStep program readings words m scan

-- what is known outlasts the accesses of sources and clock
abbrev pub ScanDrifts : Type 0
ScanDrifts =
    (program : Program) (words new : Memory) (m next : Model) (scan : ScanMachine) →
    SamePrivate words new → Follows m next → ScanHolds program words m scan → ScanHolds program new next scan

-- every thread was passed, and none has a pending event
pub record IsQuiet (program : Program) (m : Model) : Type 0 where
  pub scan : ScanModel
  pub scanned : m.scan ≡ Some scan
  pub passed : (t : ℕ) → t < length program.threads → IsPassed program m scan t
  pub nothing : (t : ℕ) → t < length program.threads → pending program m t ≡ None

-- what a scan found is true of the state
abbrev pub IsFound : Program → Memory → Model → Scanned → Type 0
IsFound program words m (Pick pick) = IsPicked program words m pick
IsFound program words m Quiet = IsQuiet program m

-- what the registers say at the end of a scan is so of the words and the state
abbrev pub ScanEnds : Type 0
ScanEnds =
    (program : Program) (words : Memory) (m : Model) (scan : ScanMachine) (found : Scanned) →
    ScanHolds program words m scan → scan_result scan.at ≡ Some found → IsFound program words m found
