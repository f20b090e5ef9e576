-- How many accesses a boot has left at most, by its registers and by how many threads have a finished event.
use Rattle.std.specs.Prelude.{ℕ, zero, suc, ◌+◌, ◌-◌, ◌*◌, if◌then◌else◌, length}
use Rattle.task_isa.specs.declared.program.Program.{Program}
use Rattle.never_cut.specs.declared.model.Model.{Model}
use Rattle.never_cut.specs.State.{thread_of}
use Rattle.reboot.specs.declared.boot_at.BootAt.{BootAt}
use Rattle.reboot.specs.declared.boot_at.BootAt.TheVariants.{Commit, Stamp, Finished, Slot, Ack, Empty, Over}
use Rattle.reboot.specs.declared.machine.BootMachine.{BootMachine}

-- how many of the first so many threads have a finished event
abbrev pub finished_among : Model → ℕ → ℕ
finished_among m zero = 0
finished_among m (suc t) = (if (thread_of m t).finished then 1 else 0) + finished_among m t

-- four words of each thread behind thread t
abbrev pub threads_ahead : Program → (t : ℕ) → ℕ
threads_ahead program t = 4 * (length program.threads - (t + 1))

-- the loads that are left, of this thread and those behind it
abbrev pub loads_left : Program → (t : ℕ) → BootAt → ℕ
loads_left program t Commit = 4 + threads_ahead program t
loads_left program t (Stamp c) = 3 + threads_ahead program t
loads_left program t (Finished c) = 2 + threads_ahead program t
loads_left program t (Slot p) = 1 + threads_ahead program t
loads_left program t (Ack p source count) = threads_ahead program t
loads_left program t (Empty p) = threads_ahead program t
loads_left program t Over = 0

-- the stores that were made for a finished event that isn't released
abbrev pub stores_made : BootAt → ℕ
stores_made (Empty p) = 1
stores_made _ = 0

-- Each access of a boot that isn't over lowers this by at least one: two stores are left for each finished event.
abbrev pub boot_left : Program → Model → BootMachine → ℕ
boot_left program m boot = loads_left program boot.thread.0 boot.at + (2 * finished_among m (length program.threads) - stores_made boot.at)
