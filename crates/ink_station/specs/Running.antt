-- What it is to be the record of a job's whole run, and the records of many.
use Rattle.std.specs.Prelude.{◌≡◌, ℕ, List}
use Rattle.job_parts.specs.Job.{JobParts, IsJob, AreFirstWords}
use Rattle.kernel_core.specs.declared.run_record.RunRecord.{RunRecord}
use Rattle.kernel_core.specs.Core.{setup_of}
use Rattle.kernel_core.specs.Listed.{run}
use Rattle.std.specs.List.{AllZip}

-- A job within its limits was run from the words with which its run begins, and the record has the job, and the charges and words of the board after all
-- that the job lists.
pub record IsWholeRun (job : JobParts) (r : RunRecord) : Type 0 where
  pub limits : IsJob job
  pub job_is : r.job ≡ job
  pub first : List ℕ
  pub image : AreFirstWords job.program job.start first
  pub charges : r.charges ≡ (run (setup_of job) first job.charges).charges
  pub words : r.words ≡ (run (setup_of job) first job.charges).words

-- record n is that of job n
abbrev pub AreRunsOf : List JobParts → List RunRecord → Type 0
AreRunsOf jobs records = AllZip IsWholeRun jobs records
