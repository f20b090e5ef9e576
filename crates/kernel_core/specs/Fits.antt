-- The ranges in which an access of the kernel can be made.
use Rattle.std.specs.Prelude.{ℕ}
use Rattle.task_isa.specs.declared.program.Program.{Program}
use Rattle.reboot.specs.Boot.{IsBoot, IsBootWord}
use Rattle.priority_sched.specs.Scan.{IsScan, IsScanWord}
use Rattle.task_run.specs.Fits.{FitsTask, FitsWord}
use Rattle.kernel_core.specs.declared.kernel.Kernel.{Kernel}
use Rattle.kernel_core.specs.declared.kernel.Kernel.TheVariants.{Boot, Scan, Task}

-- the registers can make their next access
abbrev pub CanWant : Program → Kernel → Type 0
CanWant program (Boot boot) = IsBoot program boot
CanWant program (Scan stamp scan) = IsScan program scan
CanWant program (Task machine) = FitsTask program machine

-- and take the word that it finds
abbrev pub CanTake : Program → Kernel → (word : ℕ) → Type 0
CanTake program (Boot boot) word = IsBoot program boot × IsBootWord program boot.at word
CanTake program (Scan stamp scan) word = IsScan program scan × IsScanWord program scan.at word
CanTake program (Task machine) word = FitsTask program machine × FitsWord program machine.phase word
