-- The access table of a boot: in each row one access, the row that follows, and what the access stands for.
use Rattle.std.specs.Prelude.{ℕ, ◌+◌, ◌-◌, ◌%◌, ◌^◌, ◌<◌, ◌==◌, nat_lt, max, length, if◌then◌else◌, Option, Some, None}
use Rattle.ink_base.specs.declared.ids.ThreadId.{ThreadId}
use Rattle.task_isa.specs.declared.program.Program.{Program}
use Rattle.fram_words.specs.Places.{Access, Load, Store}
use Rattle.fram_words.specs.Places as places
use Rattle.fram_words.specs.Header as header
use Rattle.thread_state.specs.Pages.{place_in}
use Rattle.push_core.specs.Slots.{empty_word, slot_in}
use Rattle.push_core.specs.declared.slot.Slot as slot
use Rattle.push_core.specs.declared.slot.Slot.TheVariants as slots
use Rattle.prog_check.specs.Lookup.{thread_def}
use Rattle.ink_layout.specs.Slots.{slot_place}
use Rattle.ink_layout.specs.declared.kernel_point.KernelPoint.{KernelPoint}
use Rattle.ink_layout.specs.declared.kernel_point.KernelPoint.TheVariants as points
use Rattle.ink_layout.specs.declared.slot_at.SlotAt.{SlotAt}
use Rattle.reboot.specs.declared.boot_at.BootAt.{BootAt}
use Rattle.reboot.specs.declared.boot_at.BootAt.TheVariants.{Commit, Stamp, Finished, Slot, Ack, Empty, Over}
use Rattle.reboot.specs.declared.machine.BootMachine.{BootMachine}

-- the registers of a boot that visits this thread, with the greatest stamp so far
abbrev pub boot_at : ThreadId → ℕ → BootAt → BootMachine
boot_at thread stamp at = record { thread = thread; stamp = stamp; at = at }

-- the registers in which a boot begins
abbrev pub boot_begun : BootMachine
boot_begun = boot_at (record { 0 = 0 }) 0 Commit

-- the access of each row, for thread t; a boot that is over has none to make
abbrev pub boot_wants : Program → (t : ℕ) → BootAt → Access
boot_wants program t Commit = Load (places.Commit t)
boot_wants program t (Stamp c) = Load (place_in t c header.stamp)
boot_wants program t (Finished c) = Load (place_in t c header.finished)
boot_wants program t (Slot p) = Load (slot_place program t p)
boot_wants program t (Ack p source count) = Store (places.Ack source.0) ((count + 1) % 64)
boot_wants program t (Empty p) = Store (slot_place program t p) (empty_word (p + (thread_def program t).queue))
boot_wants program t Over = Load (places.Commit t)

-- the next thread, or the end
abbrev pub boot_next : Program → ThreadId → (stamp : ℕ) → BootMachine
boot_next program thread stamp =
    if nat_lt (thread.0 + 1) (length program.threads) then boot_at (record { 0 = thread.0 + 1 }) stamp Commit else boot_at thread stamp Over

-- after the load of a slot: an event of the position is acknowledged
abbrev pub after_slot : Program → ThreadId → (stamp p : ℕ) → Option slot.Slot → BootMachine
after_slot program thread stamp p (Some (slots.Full q source count value)) =
    if q == p then boot_at thread stamp (Ack p source count) else boot_next program thread stamp
after_slot program thread stamp p (Some (slots.Empty q)) = boot_next program thread stamp
after_slot program thread stamp p None = boot_next program thread stamp

-- the registers after the access found this word
abbrev pub boot_takes : Program → ThreadId → (stamp : ℕ) → BootAt → (word : ℕ) → BootMachine
boot_takes program thread stamp Commit word = boot_at thread stamp (Stamp word)
boot_takes program thread stamp (Stamp c) word = boot_at thread (max stamp word) (Finished c)
boot_takes program thread stamp (Finished c) word = if word == 0 then boot_next program thread stamp else boot_at thread stamp (Slot (word - 1))
boot_takes program thread stamp (Slot p) word = after_slot program thread stamp p (slot_in word)
boot_takes program thread stamp (Ack p source count) word = boot_at thread stamp (Empty p)
boot_takes program thread stamp (Empty p) word = boot_next program thread stamp
boot_takes program thread stamp Over word = boot_at thread stamp Over

-- what the access stands for
abbrev pub boot_point : ThreadId → BootAt → KernelPoint
boot_point thread (Empty p) = points.Release thread
boot_point thread at = points.Nothing

-- the stamp, once the boot is over
abbrev pub stamp_at : (stamp : ℕ) → BootAt → Option ℕ
stamp_at stamp Over = Some stamp
stamp_at stamp at = None

-- the stamp that a boot has found, once it is over
abbrev pub boot_stamp : BootMachine → Option ℕ
boot_stamp boot = stamp_at boot.stamp boot.at

-- the event that the access looks for, acknowledges or releases
abbrev pub boot_slot : ThreadId → BootAt → Option SlotAt
boot_slot thread (Slot p) = Some (record { thread = thread; position = p })
boot_slot thread (Ack p source count) = Some (record { thread = thread; position = p })
boot_slot thread (Empty p) = Some (record { thread = thread; position = p })
boot_slot thread at = None

-- a position is below 2 ^ 20, and a source one of the program
abbrev pub IsBootRow : Program → BootAt → Type 0
IsBootRow program (Slot p) = p < 2 ^ 20
IsBootRow program (Ack p source count) = (p < 2 ^ 20) × (source.0 < length program.sources)
IsBootRow program (Empty p) = p < 2 ^ 20
IsBootRow program at = Unit {0}

-- registers that a boot of the program can come to
pub record IsBoot (program : Program) (boot : BootMachine) : Type 0 where
  pub known : boot.thread.0 < length program.threads
  pub row : IsBootRow program boot.at

-- an event in a slot is of a source of the program
abbrev pub IsOfSource : Program → Option slot.Slot → Type 0
IsOfSource program (Some (slots.Full p source count value)) = source.0 < length program.sources
IsOfSource program (Some (slots.Empty p)) = Unit {0}
IsOfSource program None = Unit {0}

-- the word is one that the row takes
abbrev pub IsBootWord : Program → BootAt → (word : ℕ) → Type 0
IsBootWord program (Finished c) word = word < 2 ^ 20
IsBootWord program (Slot p) word = IsOfSource program (slot_in word)
IsBootWord program at word = Unit {0}
