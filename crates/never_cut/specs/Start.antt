-- The states at which a run can begin: that of the first image, and those of the images that runs leave.
use Rattle.std.specs.Prelude.{◌-◌, ◌^◌}
use Rattle.task_isa.specs.declared.program.Program.{Program}
use Rattle.never_cut.specs.declared.model.Model.{Model}
use Rattle.never_cut.specs.Entries.{Readings}
use Rattle.never_cut.specs.Sound.{IsSound}
use Rattle.never_cut.specs.Within.{Lasts}

-- it is sound, and its counts have room for as many entries as 32 bits count
pub record CanStart (program : Program) (readings : Readings) (first : Model) : Type 0 where
  pub sound : IsSound program readings first
  pub counts : Lasts (2 ^ 32 - 1) first
