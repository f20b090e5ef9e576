-- The registers that the kernel comes to from words in their ranges.
use Rattle.std.specs.Prelude.{ℕ}
use Rattle.task_isa.specs.declared.program.Program.{Program}
use Rattle.never_cut.specs.Ranges.{Loaded, nothing_loaded}
use Rattle.reboot.specs.Boot.{IsBoot}
use Rattle.priority_sched.specs.Reached.{scan_loaded, IsScanOf}
use Rattle.task_run.specs.Reached.{task_loaded, IsServiceOf}
use Rattle.kernel_core.specs.declared.kernel.Kernel.{Kernel}
use Rattle.kernel_core.specs.declared.kernel.Kernel.TheVariants.{Boot, Scan, Task}
use Rattle.kernel_core.specs.Fits.{CanWant}

-- what was loaded before the word that is wanted
abbrev pub loaded : Kernel → Loaded
loaded (Boot boot) = nothing_loaded
loaded (Scan stamp scan) = scan_loaded scan.time scan.at
loaded (Task machine) = task_loaded machine

-- the number of commits so far; in a boot the greatest stamp that it has loaded
abbrev pub stamp_of : Kernel → ℕ
stamp_of (Boot boot) = boot.stamp
stamp_of (Scan stamp scan) = stamp
stamp_of (Task machine) = machine.stamp

-- each machine's registers are those that it comes to
abbrev pub AreReached : Program → Kernel → Type 0
AreReached program (Boot boot) = IsBoot program boot
AreReached program (Scan stamp scan) = IsScanOf program scan
AreReached program (Task machine) = IsServiceOf program machine

-- registers that the kernel comes to, where every word that it took was in the range of its place; they can make their next access
pub record IsKernelOf (program : Program) (kernel : Kernel) : Type 0 where
  pub can_want : CanWant program kernel
  pub reached : AreReached program kernel
