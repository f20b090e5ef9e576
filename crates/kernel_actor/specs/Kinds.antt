-- Whose word the kernel's next access is of.
use Rattle.std.specs.Prelude.{ℕ}
use Rattle.ink_base.specs.declared.ids.ThreadId.{ThreadId}
use Rattle.ink_layout.specs.declared.pick.Pick.{Pick}
use Rattle.ink_layout.specs.declared.slot_at.SlotAt.{SlotAt}
use Rattle.fram_words.specs.Places.{Place, Code, Commit, Page, Log, Ring}
use Rattle.reboot.specs.declared.boot_at.BootAt.{BootAt}
use Rattle.reboot.specs.declared.boot_at.BootAt.TheVariants as boot
use Rattle.priority_sched.specs.declared.scan_at.ScanAt.{ScanAt}
use Rattle.priority_sched.specs.declared.scan_at.ScanAt.TheVariants as scan
use Rattle.task_run.specs.declared.phase.Phase.{Phase}
use Rattle.task_run.specs.declared.phase.Phase.TheVariants as phase
use Rattle.kernel_core.specs.declared.kernel.Kernel.{Kernel}
use Rattle.kernel_core.specs.declared.kernel.Kernel.TheVariants.{Boot, Scan, Task}
use Rattle.kernel_actor.specs.declared.kind.Kind.{Kind}
use Rattle.kernel_actor.specs.declared.kind.Kind.TheVariants.{Own, Clock, Look, Acknowledge, Release}

-- the words that nobody but the kernel reads or writes
abbrev pub IsOwn : Place → Type 0
IsOwn (Code x n) = Unit {0}
IsOwn (Commit t) = Unit {0}
IsOwn (Page t p c k) = Unit {0}
IsOwn (Log t n) = Unit {0}
IsOwn (Ring q n) = Unit {0}
IsOwn _ = ⊥

-- the slot of a thread's event
abbrev pub slot_at : ThreadId → ℕ → SlotAt
slot_at thread position = record { thread = thread; position = position }

-- by the row of a boot
abbrev pub boot_kind : ThreadId → BootAt → Kind
boot_kind thread (boot.Slot p) = Look (slot_at thread p)
boot_kind thread (boot.Ack p source count) = Acknowledge (slot_at thread p)
boot_kind thread (boot.Empty p) = Release (slot_at thread p)
boot_kind thread _ = Own

-- by the row of a scan
abbrev pub scan_kind : ThreadId → ScanAt → Kind
scan_kind thread scan.Clock = Clock
scan_kind thread (scan.Slot c p) = Look (slot_at thread p)
scan_kind thread (scan.Picked pick) = Clock
scan_kind thread scan.Quiet = Clock
scan_kind thread _ = Own

-- by the phase of a service
abbrev pub task_kind : Pick → Phase → Kind
task_kind pick (phase.StoreAck source count) = Acknowledge (slot_at pick.thread pick.position)
task_kind pick phase.StoreEmpty = Release (slot_at pick.thread pick.position)
task_kind pick phase.Over = Clock
task_kind pick _ = Own

-- the kind of the next access
abbrev pub kind_of : Kernel → Kind
kind_of (Boot boot) = boot_kind boot.thread boot.at
kind_of (Scan stamp scan) = scan_kind scan.thread scan.at
kind_of (Task machine) = task_kind machine.pick machine.phase
