-- Boot, scan and task composed: the registers, the next access, the registers after it, and what it means to the never-cut kernel.
use Rattle.std.specs.Prelude.{ℕ, ◌+◌, if◌then◌else◌, Option, Some, None}
use Rattle.task_isa.specs.declared.program.Program.{Program}
use Rattle.fram_words.specs.Places.{Access}
use Rattle.ink_layout.specs.declared.kernel_point.KernelPoint.{KernelPoint}
use Rattle.ink_layout.specs.declared.slot_at.SlotAt.{SlotAt}
use Rattle.reboot.specs.declared.machine.BootMachine.{BootMachine}
use Rattle.reboot.specs.Boot.{boot_begun, boot_wants, boot_takes, boot_point, boot_stamp, boot_slot}
use Rattle.priority_sched.specs.declared.machine.ScanMachine.{ScanMachine}
use Rattle.priority_sched.specs.declared.scanned.Scanned.{Scanned}
use Rattle.priority_sched.specs.declared.scanned.Scanned.TheVariants.{Pick, Quiet}
use Rattle.priority_sched.specs.Scan.{scan_begun, scan_wants, scan_takes, scan_point, scan_result, scan_slot}
use Rattle.task_run.specs.declared.machine.TaskMachine.{TaskMachine}
use Rattle.task_run.specs.Machine as task
use Rattle.kernel_core.specs.declared.kernel.Kernel.{Kernel}
use Rattle.kernel_core.specs.declared.kernel.Kernel.TheVariants.{Boot, Scan, Task}

-- the registers in which a charge begins
abbrev pub first_kernel : Kernel
first_kernel = Boot boot_begun

-- a scan begins, the stamp being the number of commits
abbrev pub begin_scan : ℕ → Kernel
begin_scan stamp = Scan stamp scan_begun

-- the access of the machine that is at work
abbrev pub wants : Program → Kernel → Access
wants program (Boot boot) = boot_wants program boot.thread.0 boot.at
wants program (Scan stamp scan) = scan_wants program scan.thread.0 scan.at
wants program (Task machine) = task.want program machine

-- once the boot has its stamp, a scan begins
abbrev pub after_boot : BootMachine → Option ℕ → Kernel
after_boot boot None = Boot boot
after_boot boot (Some stamp) = begin_scan stamp

-- a pick is served, and a quiet scan is followed by a new one
abbrev pub after_scan : ℕ → ScanMachine → Option Scanned → Kernel
after_scan stamp scan None = Scan stamp scan
after_scan stamp scan (Some (Pick pick)) = Task (task.begin pick stamp)
after_scan stamp scan (Some Quiet) = begin_scan stamp

-- a service that is over has made one commit
abbrev pub after_task : TaskMachine → Kernel
after_task machine = if task.is_over machine.phase then begin_scan (machine.stamp + 1) else Task machine

-- behind an access of the boot: a boot that is over hands over to the first scan
abbrev pub booted : BootMachine → Kernel
booted boot = after_boot boot (boot_stamp boot)

-- behind an access of a scan: one that is over hands over to a task, or to another scan
abbrev pub scanned : ℕ → ScanMachine → Kernel
scanned stamp scan = after_scan stamp scan (scan_result scan.at)

-- the registers after the access, which found this word
abbrev pub takes : Program → Kernel → ℕ → Kernel
takes program (Boot boot) word = booted (boot_takes program boot.thread boot.stamp boot.at word)
takes program (Scan stamp scan) word = scanned stamp (scan_takes program scan.thread scan.time scan.at word)
takes program (Task machine) word = after_task (task.take program machine word)

-- what the access means to the never-cut kernel
abbrev pub point_found : Program → Kernel → ℕ → KernelPoint
point_found program (Boot boot) word = boot_point boot.thread boot.at
point_found program (Scan stamp scan) word = scan_point scan.thread scan.at word
point_found program (Task machine) word = task.point machine

-- the event of a queue that the access serves
abbrev pub slot_wanted : Kernel → Option SlotAt
slot_wanted (Boot boot) = boot_slot boot.thread boot.at
slot_wanted (Scan stamp scan) = scan_slot scan.thread scan.at
slot_wanted (Task machine) = task.slot_at machine machine.phase
