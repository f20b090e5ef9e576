-- What the registers take of a word, by the kind of the access.
use Rattle.std.proofs.Common.{◌≡◌, ℕ, ◌+◌, ◌<◌, length, refl, sym, subst}
use Rattle.ink_base.specs.declared.ids.ThreadId.{ThreadId}
use Rattle.task_isa.specs.declared.program.Program.{Program}
use Rattle.push_core.specs.Slots.{slot_in}
use Rattle.ink_layout.specs.declared.pick.Pick.{Pick}
use Rattle.reboot.specs.Boot.{boot_takes, IsOfSource, IsBootWord}
use Rattle.reboot.specs.declared.boot_at.BootAt.{BootAt}
use Rattle.reboot.specs.declared.boot_at.BootAt.TheVariants as boot
use Rattle.priority_sched.specs.Scan.{IsScanWord}
use Rattle.priority_sched.specs.declared.scan_at.ScanAt.{ScanAt}
use Rattle.priority_sched.specs.declared.scan_at.ScanAt.TheVariants as scan
use Rattle.task_run.specs.Fits.{FitsWord}
use Rattle.task_run.specs.Machine.{take}
use Rattle.task_run.specs.declared.phase.Phase.{Phase}
use Rattle.task_run.specs.declared.phase.Phase.TheVariants as phase
use Rattle.task_run.specs.declared.machine.TaskMachine.{TaskMachine}
use Rattle.kernel_core.specs.Fits.{CanWant, CanTake}
use Rattle.kernel_core.specs.Kernel.{takes, point_found, booted, after_task}
use Rattle.kernel_core.specs.declared.kernel.Kernel.{Kernel}
use Rattle.kernel_core.specs.declared.kernel.Kernel.TheVariants.{Boot, Scan, Task}
use Rattle.kernel_actor.specs.Kinds.{kind_of, boot_kind, scan_kind, task_kind}
use Rattle.kernel_actor.specs.declared.kind.Kind.{Kind}
use Rattle.kernel_actor.specs.declared.kind.Kind.TheVariants.{Own, Look, Acknowledge, Release}

-- a store to a shared word
abbrev pub IsStore : Kind → Type 0
IsStore (Acknowledge at) = Unit {0}
IsStore (Release at) = Unit {0}
IsStore _ = ⊥

boot_store : (program : Program) (thread : ThreadId) (stamp : ℕ) (at : BootAt) (w x : ℕ) → IsStore (boot_kind thread at) → booted (boot_takes program thread stamp at w) ≡ booted (boot_takes program thread stamp at x)
boot_store program thread stamp (boot.Ack p source count) w x h = refl
boot_store program thread stamp (boot.Empty p) w x h = refl
boot_store program thread stamp _ w x h = absurd h

scan_store : (thread : ThreadId) (at : ScanAt) → IsStore (scan_kind thread at) → ⊥
scan_store thread scan.Clock h = h
scan_store thread _ h = h

task_store : (program : Program) (r : TaskMachine) (at : Phase) (w x : ℕ) → IsStore (task_kind r.pick at) → take program (record r { phase = at }) w ≡ take program (record r { phase = at }) x
task_store program r (phase.StoreAck source count) w x h = refl
task_store program r phase.StoreEmpty w x h = refl
task_store program r _ w x h = absurd h

-- after a store the registers don't depend on the word that stood there
pub store_takes : (program : Program) (kernel : Kernel) (w x : ℕ) → IsStore (kind_of kernel) → takes program kernel w ≡ takes program kernel x
store_takes program (Boot machine) w x h = boot_store program machine.thread machine.stamp machine.at w x h
store_takes program (Scan stamp machine) w x h = absurd (scan_store machine.thread machine.at h)
store_takes program (Task r) w x h = Rattle.std.proofs.Common.ap after_task (task_store program r r.phase w x h)

pub store_point : (program : Program) (kernel : Kernel) (w x : ℕ) → IsStore (kind_of kernel) → point_found program kernel w ≡ point_found program kernel x
store_point program (Boot machine) w x h = refl
store_point program (Scan stamp machine) w x h = absurd (scan_store machine.thread machine.at h)
store_point program (Task r) w x h = refl

-- a word of a shared place: a slot's is of a source of the program
abbrev pub IsShared : Program → Kind → ℕ → Type 0
IsShared program Own w = ⊥
IsShared program (Look at) w = IsOfSource program (slot_in w)
IsShared program _ w = Unit {0}

boot_word : (program : Program) (thread : ThreadId) (at : BootAt) (w : ℕ) → IsShared program (boot_kind thread at) w → IsBootWord program at w
boot_word program thread (boot.Slot p) w h = h
boot_word program thread (boot.Finished c) w h = absurd h
boot_word program thread _ w h = tt

scan_word : (program : Program) (thread : ThreadId) (at : ScanAt) (w : ℕ) → IsShared program (scan_kind thread at) w → IsScanWord program at w
scan_word program thread scan.Clock w h = tt
scan_word program thread (scan.Slot c p) w h = tt
scan_word program thread (scan.Picked pick) w h = tt
scan_word program thread scan.Quiet w h = tt
scan_word program thread _ w h = absurd h

task_word : (program : Program) (pick : Pick) (at : Phase) (w : ℕ) → IsShared program (task_kind pick at) w → FitsWord program at w
task_word program pick (phase.StoreAck source count) w h = tt
task_word program pick phase.StoreEmpty w h = tt
task_word program pick phase.Over w h = tt
task_word program pick _ w h = absurd h

-- it can be taken
pub shared_takes : (program : Program) (kernel : Kernel) (w : ℕ) → CanWant program kernel → IsShared program (kind_of kernel) w → CanTake program kernel w
shared_takes program (Boot machine) w can h = (can, boot_word program machine.thread machine.at w h)
shared_takes program (Scan stamp machine) w can h = (can, scan_word program machine.thread machine.at w h)
shared_takes program (Task r) w can h = (can, task_word program r.pick r.phase w h)
