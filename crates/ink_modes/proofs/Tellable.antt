-- The state after a run's journal can be told: it fits its program, and it has no more outputs than the threads' logs have places.
use Rattle.ink_modes.proofs.Common.{◌≡◌, ℕ, Option, Some, None, refl, sym, ap, ◌∙◌, subst, IsJob, List, flat_map, Program, Model, first_of, after, ChargeRecord, RunRecord, IsReportable, IsRunOf, journal_in, entries_of}
use Rattle.std.specs.Option.{ForSome}
use Rattle.job_parts.specs.Job.{IsStart, first_model}
use Rattle.job_parts.specs.declared.start.Start.{Start}
use Rattle.ink_report.specs.Conditions.{FitsProgram}
use Rattle.ink_report.proofs.Reportable.{open_parts, legal_reportable}

-- the state after the charges of a record
abbrev pub state_of : RunRecord → List ChargeRecord → Model
state_of r charges = after r.job.program r.job.readings (first_of r.job) (flat_map entries_of charges)

-- the state at which a run begins names parts of its program
first_fits : (program : Program) (readings : List (List ℕ)) (start : Option Start) → ForSome start (IsStart program readings) → FitsProgram program (first_model program start)
first_fits program readings None is = open_parts program
first_fits program readings (Some start) is =
    let there = is start refl in
    record { threads = there.read.shape.threads; sources = there.read.shape.sources; outputs = λ k d lt. (there.read.outputs k d lt).0 }

-- its state and its journal can be told
pub tellable : (r : RunRecord) (charges : List ChargeRecord) (m : Model) → IsJob r.job → IsRunOf r.job r → charges ≡ r.charges → m ≡ state_of r charges → IsReportable r.job.program m (flat_map entries_of charges)
tellable r charges m job ran same is =
    subst (λ (z : Model × List ChargeRecord). IsReportable r.job.program z.0 (flat_map entries_of z.1)) (λ i. (sym (is ∙ ap (state_of r) same) i, sym same i))
    (legal_reportable r.job.program r.job.readings (first_of r.job) (journal_in r) (first_fits r.job.program r.job.readings r.job.start job.start) ran.legal)
