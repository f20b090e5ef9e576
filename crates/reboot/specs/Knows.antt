-- What the registers of a boot know of the words and the state.
use Rattle.std.specs.Prelude.{◌≡◌, ℕ, zero, suc, ◌+◌, ◌%◌, ◌<◌, ◌≤◌, max, false, length}
use Rattle.task_isa.specs.declared.program.Program.{Program}
use Rattle.fram_words.specs.Places.{Memory, perform, answer}
use Rattle.fram_words.specs.Places as places
use Rattle.fram_words.specs.Header as header
use Rattle.thread_state.specs.Pages.{committed}
use Rattle.ink_layout.specs.Points.{entry_of_point}
use Rattle.never_cut.specs.declared.model.Model.{Model}
use Rattle.never_cut.specs.State.{thread_of}
use Rattle.never_cut.specs.Entries.{Readings}
use Rattle.never_cut.specs.Journal.{moved}
use Rattle.never_cut.specs.Stands.{flag}
use Rattle.never_cut.specs.kept.Actors.{IsFinishing}
use Rattle.never_cut.specs.kept.Steps.{IsKept}
use Rattle.reboot.specs.declared.boot_at.BootAt.{BootAt}
use Rattle.reboot.specs.declared.boot_at.BootAt.TheVariants.{Commit, Stamp, Finished, Slot, Ack, Empty, Over}
use Rattle.reboot.specs.declared.machine.BootMachine.{BootMachine}
use Rattle.reboot.specs.Boot.{boot_wants, boot_takes, boot_point}

-- the number of the thread's events that were finished, released or not
abbrev pub finished_events : Model → ℕ → ℕ
finished_events m t = (thread_of m t).released + flag (thread_of m t).finished

-- the thread's own stamp counts
abbrev pub IsCounted : Memory → (t stamp : ℕ) → Type 0
IsCounted words t stamp = committed words t header.stamp ≤ stamp

-- the stamp of a thread's last commit
abbrev pub last_stamp : Memory → ℕ → ℕ
last_stamp words t = committed words t header.stamp

-- the greatest of the first so many numbers
abbrev pub greatest : (ℕ → ℕ) → ℕ → ℕ
greatest f zero = 0
greatest f (suc n) = max (greatest f n) (f n)

-- how many threads have shown their stamp: those that were passed, and the one at hand once its stamp is loaded
abbrev pub shown : (t : ℕ) → BootAt → ℕ
shown t Commit = t
shown t (Stamp c) = t
shown t _ = suc t

-- the finished event is the first held one: its position, source and count
pub record KnowsEvent (m : Model) (t p i count : ℕ) : Type 0 where
  pub position : p ≡ (thread_of m t).released
  pub finishing : IsFinishing m t i count

-- and its acknowledgement stands
pub record KnowsAck (words : Memory) (m : Model) (t p : ℕ) : Type 0 where
  pub source : ℕ
  pub count : ℕ
  pub event : KnowsEvent m t p source count
  pub stored : words (places.Ack source) ≡ (count + 1) % 64

-- the thread was passed as the last one
pub record KnowsAll (program : Program) (m : Model) (t : ℕ) : Type 0 where
  pub last : length program.threads ≤ t + 1
  pub clear : (thread_of m t).finished ≡ false

-- what is known of thread t in each row
abbrev pub BootKnows : Program → Memory → Model → (t stamp : ℕ) → BootAt → Type 0
BootKnows program words m t stamp Commit = Unit {0}
BootKnows program words m t stamp (Stamp c) = c ≡ words (places.Commit t)
BootKnows program words m t stamp (Finished c) = (c ≡ words (places.Commit t)) × IsCounted words t stamp
BootKnows program words m t stamp (Slot p) = (p + 1 ≡ finished_events m t) × IsCounted words t stamp
BootKnows program words m t stamp (Ack p source count) = KnowsEvent m t p source.0 count × IsCounted words t stamp
BootKnows program words m t stamp (Empty p) = KnowsAck words m t p × IsCounted words t stamp
BootKnows program words m t stamp Over = KnowsAll program m t × IsCounted words t stamp

-- The threads before the one at hand have no finished event, and their stamps count; the stamp is the greatest that was shown, and none that no commit has.
pub record BootHolds (program : Program) (words : Memory) (m : Model) (boot : BootMachine) : Type 0 where
  pub known : boot.thread.0 < length program.threads
  pub passed : (u : ℕ) → u < boot.thread.0 → (thread_of m u).finished ≡ false
  pub counted : (u : ℕ) → u < boot.thread.0 → IsCounted words u boot.stamp
  pub below : boot.stamp ≤ m.commits
  pub greatest_is : boot.stamp ≡ greatest (last_stamp words) (shown boot.thread.0 boot.at)
  pub knows : BootKnows program words m boot.thread.0 boot.stamp boot.at

-- the wanted access is kept, and the registers after it know the words and the state after it
pub record BootStep (program : Program) (readings : Readings) (words : Memory) (m : Model) (boot : BootMachine) : Type 0 where
  pub kept : IsKept program readings words m (boot_wants program boot.thread.0 boot.at) (entry_of_point (boot_point boot.thread boot.at))
  pub holds : BootHolds program (perform words (boot_wants program boot.thread.0 boot.at))
      (moved program readings m (entry_of_point (boot_point boot.thread boot.at)))
      (boot_takes program boot.thread boot.stamp boot.at (answer words (boot_wants program boot.thread.0 boot.at)))
