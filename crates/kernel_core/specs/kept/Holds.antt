-- What every turn and every cut keeps.
use Rattle.std.specs.Prelude.{◌≡◌, ℕ, ◌≤◌, false, [], length, None}
use Rattle.fram_words.specs.Places.{Memory, Clock}
use Rattle.ink_layout.specs.Shape.{words_of}
use Rattle.task_isa.specs.declared.program.Program.{Program}
use Rattle.source_laws.specs.kept.Kept.{Kept}
use Rattle.never_cut.specs.declared.model.Model.{Model}
use Rattle.never_cut.specs.Journal.{IsLegal}
use Rattle.never_cut.specs.Stands.{StandsPrivate}
use Rattle.reboot.specs.Boot.{boot_stamp}
use Rattle.reboot.specs.Knows.{BootHolds}
use Rattle.priority_sched.specs.Scan.{scan_result}
use Rattle.priority_sched.specs.Knows.{ScanHolds}
use Rattle.task_run.specs.Machine.{is_over}
use Rattle.task_run.specs.Knows.{Knows}
use Rattle.kernel_core.specs.declared.kernel.Kernel.{Kernel}
use Rattle.kernel_core.specs.declared.kernel.Kernel.TheVariants.{Boot, Scan, Task}
use Rattle.kernel_core.specs.Record.{charge_of}
use Rattle.kernel_core.specs.Board.{Setup, Board, shape, sides, journal, row_of}
use Rattle.kernel_core.specs.Views.{seen}
use Rattle.kernel_core.specs.Stands.{memory, state}

-- what the kernel's registers know; a machine that is over has handed over to the next
abbrev pub KernelHolds : Program → Memory → Model → Kernel → Type 0
KernelHolds program words m (Boot boot) = BootHolds program words m boot × (boot_stamp boot ≡ None)
KernelHolds program words m (Scan stamp scan) = (stamp ≡ m.commits) × ScanHolds program words m scan × (scan_result scan.at ≡ None)
KernelHolds program words m (Task machine) = Knows program words m machine × (is_over machine.phase ≡ false)

-- as many words, rows and charges as there should be; a charge that has not begun has no entry
pub record HasSize (s : Setup) (charges : ℕ) (b : Board) : Type 0 where
  pub words : length b.words ≡ words_of (shape s)
  pub rows : length b.rows ≡ length s.program.sources
  pub charges_count : length b.charges ≡ charges
  pub begun : b.begun ≤ charges
  pub later : (k : ℕ) → b.begun ≤ k → (charge_of b.charges k).entries ≡ []

-- the journal is legal, the words stand for the state after it, and the registers of every actor know what they must
pub record Holds (s : Setup) (charges : ℕ) (b : Board) : Type 0 where
  pub size : HasSize s charges b
  pub legal : IsLegal s.program s.readings s.first (journal b)
  pub private : StandsPrivate (memory s b) s.program (state s b)
  pub clock : memory s b Clock ≡ (state s b).clock
  pub kept : Kept (sides s) (seen (memory s b) (state s b) (row_of b))
  pub registers : KernelHolds s.program (memory s b) (state s b) b.kernel
