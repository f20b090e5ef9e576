-- What is known beside the registers of the kernel, and what one access of the kernel keeps.
use Rattle.std.specs.Prelude.{Option}
use Rattle.ink_base.specs.declared.entry.Entry.{Entry}
use Rattle.task_isa.specs.declared.program.Program.{Program}
use Rattle.fram_words.specs.Places.{Memory, Access, perform}
use Rattle.prog_check.specs.Accepted.{IsAccepted}
use Rattle.never_cut.specs.declared.model.Model.{Model}
use Rattle.never_cut.specs.Entries.{Readings}
use Rattle.never_cut.specs.Journal.{moved, MayNote}
use Rattle.never_cut.specs.Stands.{StandsPrivate}
use Rattle.never_cut.specs.Sound.{IsSound}
use Rattle.never_cut.specs.kept.Actors.{StandsForKernel, IsAllowed}

-- the words stand for the state, and the state is one that a legal journal reaches
pub record Background (program : Program) (readings : Readings) (words : Memory) (m : Model) : Type 0 where
  pub accepted : IsAccepted program
  pub private : StandsPrivate words program m
  pub shared : StandsForKernel words program m
  pub sound : IsSound program readings m

-- an access of the kernel with its entry: the entry is legal, the access allowed, and the words stand for the state after it
pub record IsKept (program : Program) (readings : Readings) (words : Memory) (m : Model) (access : Access) (entry : Option Entry) : Type 0 where
  pub legal : MayNote program readings m entry
  pub allowed : IsAllowed program words m access
  pub private : StandsPrivate (perform words access) program (moved program readings m entry)
  pub shared : StandsForKernel (perform words access) program (moved program readings m entry)
