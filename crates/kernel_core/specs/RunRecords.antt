-- The journal of a record, and what the record's words stand for.
use Rattle.std.specs.Prelude.{List}
use Rattle.std.specs.List.{flat_map}
use Rattle.ink_base.specs.declared.entry.Entry.{Entry}
use Rattle.fram_words.specs.Shape.{memory_of}
use Rattle.ink_layout.specs.Shape.{shape_of}
use Rattle.job_parts.specs.Job.{first_of}
use Rattle.never_cut.specs.declared.model.Model.{Model}
use Rattle.never_cut.specs.Journal.{after, IsLegal}
use Rattle.never_cut.specs.Stands.{Stands}
use Rattle.never_cut.specs.Image.{IsImage}
use Rattle.kernel_core.specs.declared.run_record.RunRecord.{RunRecord}
use Rattle.kernel_core.specs.Record.{ChargeRecord}

-- the journal of a charge
abbrev pub entries_of : ChargeRecord → List Entry
entries_of charge = charge.entries

-- the one journal: the entries of all charges, in order
abbrev pub journal_in : RunRecord → List Entry
journal_in r = flat_map entries_of r.charges

-- the state of the never-cut kernel after it
abbrev pub state_in : RunRecord → Model
state_in r = after r.job.program r.job.readings (first_of r.job) (journal_in r)

-- the record's journal is legal, and its words stand for the never-cut kernel after it and are an image of its program
pub record RecordStands (r : RunRecord) : Type 0 where
  pub legal : IsLegal r.job.program r.job.readings (first_of r.job) (journal_in r)
  pub stands : Stands (memory_of (shape_of r.job.program) r.words) r.job.program (state_in r)
  pub image : IsImage r.job.program (memory_of (shape_of r.job.program) r.words)
