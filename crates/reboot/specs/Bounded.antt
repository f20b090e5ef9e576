-- How many accesses a boot takes at most.
use Rattle.std.specs.Prelude.{◌≡◌, ℕ, zero, suc, ◌≤◌, None}
use Rattle.task_isa.specs.declared.program.Program.{Program}
use Rattle.fram_words.specs.Places.{Memory, perform, answer}
use Rattle.ink_layout.specs.Points.{entry_of_point}
use Rattle.never_cut.specs.declared.model.Model.{Model}
use Rattle.never_cut.specs.Entries.{Readings}
use Rattle.never_cut.specs.Bounds.{boot_bound}
use Rattle.never_cut.specs.Journal.{moved}
use Rattle.never_cut.specs.Within.{AreShort}
use Rattle.never_cut.specs.kept.Actors.{SamePrivate, Follows}
use Rattle.never_cut.specs.kept.Steps.{Background}
use Rattle.reboot.specs.declared.machine.BootMachine.{BootMachine}
use Rattle.reboot.specs.Boot.{boot_begun, boot_stamp, boot_wants, boot_takes, boot_point}

-- A boot on a board, from its begin: the words, the state that they stand for and the registers, after so many accesses of its own and any accesses of
-- sources and clock between them.
pub data IsBooting (program : Program) (readings : Readings) : Memory → Model → BootMachine → (accesses : ℕ) → Type 0 where
  Begins : (words : Memory) (m : Model) → Background program readings words m → IsBooting program readings words m boot_begun zero
  Makes : (words : Memory) (m : Model) (boot : BootMachine) (accesses : ℕ) → IsBooting program readings words m boot accesses → boot_stamp boot ≡ None →
      IsBooting program readings (perform words (boot_wants program boot.thread.0 boot.at))
      (moved program readings m (entry_of_point (boot_point boot.thread boot.at)))
      (boot_takes program boot.thread boot.stamp boot.at (answer words (boot_wants program boot.thread.0 boot.at)))
      (suc accesses)
  Meets : (words new : Memory) (m next : Model) (boot : BootMachine) (accesses : ℕ) → IsBooting program readings words m boot accesses →
      SamePrivate words new → Follows m next → Background program readings new next → IsBooting program readings new next boot accesses

-- A boot makes no more accesses than its bound.
abbrev pub EveryBootEnds : Type 0
EveryBootEnds =
    (program : Program) (readings : Readings) (words : Memory) (m : Model) (boot : BootMachine) (accesses : ℕ) → AreShort readings →
    IsBooting program readings words m boot accesses → accesses ≤ boot_bound program
