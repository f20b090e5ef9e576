-- A core before its run, behind it, and its record.
use Rattle.std.specs.Prelude.{◌≡◌, length}
use Rattle.job_parts.specs.Job.{JobParts, IsJob, AreFirstWords}
use Rattle.kernel_core.specs.declared.run_record.RunRecord.{RunRecord}
use Rattle.kernel_core.specs.Board.{first_board, moved_by}
use Rattle.kernel_core.specs.Core.{View, setup_of}
use Rattle.kernel_core.specs.Listed.{moves}

-- the core of a job before its first charge
pub record IsPrepared (job : JobParts) (core : View) : Type 0 where
  pub limits : IsJob job
  pub job_is : core.job ≡ job
  pub image : AreFirstWords job.program job.start core.board.words
  pub board : core.board ≡ first_board (setup_of job) core.board.words (length job.charges)

-- no charge has begun
abbrev pub HasNotBegun : View → Type 0
HasNotBegun core = core.board.begun ≡ 0

-- the whole run of the job led from one to the other
pub record HasRun (before after : View) : Type 0 where
  pub job_is : after.job ≡ before.job
  pub board : after.board ≡ moved_by (setup_of before.job) before.board (moves before.job.charges)

-- what the core leaves behind
pub record IsRecordOf (core : View) (r : RunRecord) : Type 0 where
  pub job_is : r.job ≡ core.job
  pub charges : r.charges ≡ core.board.charges
  pub words : r.words ≡ core.board.words
