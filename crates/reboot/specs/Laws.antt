-- What a boot keeps, and what it has done at its end.
use Rattle.std.specs.Prelude.{◌≡◌, ℕ, Some}
use Rattle.task_isa.specs.declared.program.Program.{Program}
use Rattle.fram_words.specs.Places.{Memory, answer}
use Rattle.ink_layout.specs.Points.{entry_of_point}
use Rattle.never_cut.specs.declared.model.Model.{Model}
use Rattle.never_cut.specs.Entries.{Readings, IsCalm}
use Rattle.never_cut.specs.Journal.{moved}
use Rattle.never_cut.specs.Finished.{AtMostOneFinished}
use Rattle.never_cut.specs.kept.Actors.{SamePrivate, Follows}
use Rattle.never_cut.specs.kept.Steps.{Background}
use Rattle.reboot.specs.declared.machine.BootMachine.{BootMachine}
use Rattle.reboot.specs.Boot.{boot_begun, boot_stamp, boot_wants, boot_point, IsBoot, IsBootWord}
use Rattle.reboot.specs.Knows.{last_stamp, greatest, shown, BootHolds, BootStep}

-- whatever the registers held before: those in which a boot begins know all that they must
abbrev pub BootBegins : Type 0
BootBegins = (program : Program) (readings : Readings) (words : Memory) (m : Model) → Background program readings words m → BootHolds program words m boot_begun

-- the registers, and the word that the wanted access finds, lie in their ranges
pub record IsInRange (program : Program) (words : Memory) (boot : BootMachine) : Type 0 where
  pub row : IsBoot program boot
  pub word : IsBootWord program boot.at (answer words (boot_wants program boot.thread.0 boot.at))

-- each access may be made, and is kept
abbrev pub BootKeeps : Type 0
BootKeeps =
    (program : Program) (readings : Readings) (words : Memory) (m : Model) (boot : BootMachine) →
    Background program readings words m → BootHolds program words m boot → IsInRange program words boot × BootStep program readings words m boot

-- what is known outlasts the accesses of sources and clock
abbrev pub BootDrifts : Type 0
BootDrifts =
    (program : Program) (words new : Memory) (m next : Model) (boot : BootMachine) →
    SamePrivate words new → Follows m next → BootHolds program words m boot → BootHolds program new next boot

-- the stamp is the greatest h0 of the threads that were passed, with the one at hand once that is loaded
abbrev pub BootShowsStamp : Type 0
BootShowsStamp =
    (program : Program) (words : Memory) (m : Model) (boot : BootMachine) →
    BootHolds program words m boot → boot.stamp ≡ greatest (last_stamp words) (shown boot.thread.0 boot.at)

-- where at most one thread has a finished event, so it is after an access of the boot, and after those of the others
pub record FindsOne (program : Program) (readings : Readings) (m : Model) (boot : BootMachine) : Type 0 where
  pub own : AtMostOneFinished program (moved program readings m (entry_of_point (boot_point boot.thread boot.at)))
  pub others : (next : Model) → Follows m next → AtMostOneFinished program next

-- at most one thread has a finished event, before each access of a boot and after it
abbrev pub BootFindsOne : Type 0
BootFindsOne =
    (program : Program) (readings : Readings) (words : Memory) (m : Model) (boot : BootMachine) →
    Background program readings words m → BootHolds program words m boot → AtMostOneFinished program m → FindsOne program readings m boot

-- at the end no finished event is left, and the stamp is the number of commits
abbrev pub BootEnds : Type 0
BootEnds =
    (program : Program) (readings : Readings) (words : Memory) (m : Model) (boot : BootMachine) (stamp : ℕ) →
    Background program readings words m → BootHolds program words m boot → boot_stamp boot ≡ Some stamp → IsCalm program m × (stamp ≡ m.commits)
