-- The entry that a point of the kernel stands for.
use Rattle.std.specs.Prelude.{Option, Some, None}
use Rattle.ink_base.specs.declared.entry.Entry.{Entry}
use Rattle.ink_base.specs.declared.entry.Entry.TheVariants as entries
use Rattle.ink_layout.specs.declared.kernel_point.KernelPoint.{KernelPoint}
use Rattle.ink_layout.specs.declared.kernel_point.KernelPoint.TheVariants.{Nothing, Scan, Look, Commit, Release}

-- the point's entry in the journal, if it makes one
abbrev pub entry_of_point : KernelPoint → Option Entry
entry_of_point Nothing = None
entry_of_point Scan = Some entries.Scan
entry_of_point (Look thread) = Some (entries.Look thread)
entry_of_point (Commit thread) = Some (entries.Commit thread)
entry_of_point (Release thread) = Some (entries.Release thread)
