-- The bounds of a charge that a text shows.
use Rattle.std.specs.Prelude.{Option, Some, None, if◌then◌else◌}
use Rattle.task_isa.specs.declared.program.Program.{Program}
use Rattle.never_cut.specs.Bounds.{boot_bound, round_bound}
use Rattle.ink_report.specs.declared.charge_bounds.ChargeBounds.{ChargeBounds}
use Rattle.ink_report.specs.declared.flags.Flags.{Flags}

-- the bound of a program's boot, and that of a round
abbrev pub bounds_of : Program → ChargeBounds
bounds_of program = record { boot = boot_bound program; round = round_bound program }

-- both, where they are asked for
abbrev pub bounds_shown : Program → Flags → Option ChargeBounds
bounds_shown program flags = if flags.bounds then Some (bounds_of program) else None
