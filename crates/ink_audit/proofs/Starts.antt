-- A run can begin at the state of a job's start.
use Rattle.ink_audit.proofs.Common.{List, ℕ, Option, Some, None, refl, Entry, Program, IsAccepted}
use Rattle.std.specs.Option.{ForSome}
use Rattle.job_parts.specs.Job.{JobParts, IsJob, IsStart, first_model, first_of, words_in}
use Rattle.job_parts.specs.declared.start.Start.{Start}
use Rattle.never_cut.specs.Start.{CanStart}
use Rattle.never_cut.specs.Journal.{after}
use Rattle.never_cut.proofs.ImagesStand.{every_image}
use Rattle.ink_report.specs.Conditions.{FitsProgram, IsReportable}
use Rattle.ink_report.proofs.Reportable.{open_parts, legal_reportable}
use Rattle.ink_audit.specs.Verdicts.{IsLegalIn}

pub start_starts : (program : Program) (readings : List (List ℕ)) (start : Start) → IsAccepted program → IsStart program readings start → CanStart program readings start.model
start_starts program readings start accepted is =
    (every_image program readings is.listed (words_in program start) start.model accepted is.image is.fresh is.read is.are_listed).start

-- and it names parts of the program
pub first_fits : (program : Program) (readings : List (List ℕ)) (start : Option Start) → ForSome start (IsStart program readings) → FitsProgram program (first_model program start)
first_fits program readings None is = open_parts program
first_fits program readings (Some start) is =
    let there = is start refl in
    record { threads = there.read.shape.threads; sources = there.read.shape.sources; outputs = λ k d lt. (there.read.outputs k d lt).0 }

-- the state after a legal journal of a job can be told, and so can the journal
pub legal_told : (job : JobParts) (entries : List Entry) → IsJob job → IsLegalIn job entries → IsReportable job.program (after job.program job.readings (first_of job) entries) entries
legal_told job entries is legal = legal_reportable job.program job.readings (first_of job) entries (first_fits job.program job.readings job.start is.start) legal
