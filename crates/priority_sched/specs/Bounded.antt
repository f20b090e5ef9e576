-- How many accesses a scan takes at most.
use Rattle.std.specs.Prelude.{◌≡◌, ℕ, ◌≤◌, List, [], ◌∷◌, length, None}
use Rattle.task_isa.specs.declared.program.Program.{Program}
use Rattle.never_cut.specs.Bounds.{scan_bound}
use Rattle.priority_sched.specs.declared.machine.ScanMachine.{ScanMachine}
use Rattle.priority_sched.specs.Scan.{scan_begun, scan_result, scan_takes}

-- accesses that the machine makes, one after the other and none once it is over, and that find these words
abbrev pub AreScanned : Program → ScanMachine → (words : List ℕ) → Type 0
AreScanned program scan [] = Unit {0}
AreScanned program scan (word ∷ words) = (scan_result scan.at ≡ None) × AreScanned program (scan_takes program scan.thread scan.time scan.at word) words

-- Whatever words it finds, a scan is over after as many accesses as its bound says, or earlier: the load of the clock and the access that ends it are counted.
abbrev pub EveryScanEnds : Type 0
EveryScanEnds = (program : Program) (words : List ℕ) → AreScanned program scan_begun words → length words ≤ scan_bound program
