-- What can be reported.
use Rattle.std.specs.Prelude.{◌≡◌, ◌<◌, false, List, length, All, None}
use Rattle.ink_base.specs.declared.entry.Entry.{Entry}
use Rattle.ink_base.specs.declared.entry.Entry.TheVariants.{Push, Refuse, Skip, Tick, Scan, Look, Commit, Release}
use Rattle.ink_base.specs.declared.output.Output.{Output}
use Rattle.task_isa.specs.declared.program.Program.{Program}
use Rattle.never_cut.specs.declared.model.Model.{Model}
use Rattle.ink_report.specs.declared.flags.Flags.{Flags}

-- no flag is set
abbrev pub no_flags : Flags
no_flags = record { journal = false; json = false; bounds = false; image = false; seed = None }

-- an entry names a source or a thread of the program, or neither
abbrev pub NamesPart : Program → Entry → Type 0
NamesPart program (Push source) = source.0 < length program.sources
NamesPart program (Refuse source) = source.0 < length program.sources
NamesPart program (Skip source) = source.0 < length program.sources
NamesPart program (Tick by) = Unit {0}
NamesPart program Scan = Unit {0}
NamesPart program (Look thread) = thread.0 < length program.threads
NamesPart program (Commit thread) = thread.0 < length program.threads
NamesPart program (Release thread) = thread.0 < length program.threads

-- an output names a thread of the program
abbrev pub NamesThread : Program → Output → Type 0
NamesThread program o = o.thread.0 < length program.threads

-- the state has the program's threads and sources, and its outputs name threads of the program
pub record FitsProgram (program : Program) (m : Model) : Type 0 where
  pub threads : length m.threads ≡ length program.threads
  pub sources : length m.sources ≡ length program.sources
  pub outputs : All (NamesThread program) m.outputs

-- the state fits the program, and the entries name threads and sources of it
pub record IsReportable (program : Program) (m : Model) (journal : List Entry) : Type 0 where
  pub state : FitsProgram program m
  pub entries : All (NamesPart program) journal
