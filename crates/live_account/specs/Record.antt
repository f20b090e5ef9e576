-- When the record of a live board is right.
use Rattle.std.specs.Prelude.{◌≡◌, ℕ, ◌<◌, length}
use Rattle.ink_layout.specs.Shape.{shape_of, words_of}
use Rattle.never_cut.specs.Images.{KeepTheirNumbers}
use Rattle.never_cut.specs.Sound.{IsSound}
use Rattle.never_cut.specs.Stands.{Stands}
use Rattle.never_cut.specs.Within.{Lasts}
use Rattle.job_parts.specs.Job.{JobParts}
use Rattle.kernel_account.specs.Account.{IsAccount}
use Rattle.live_account.specs.declared.record.LiveRecord.{LiveRecord}
use Rattle.live_account.specs.Queues.{AreEvents, AreRefusals, Settles, words_at}
use Rattle.live_account.specs.Kernel.{opened, AreInTime, last_state}

-- The words at the end stand for the state after all, and it is a state of the never-cut kernel with these readings.
pub record EndsRight (job : JobParts) (r : LiveRecord) : Type 0 where
  pub count : length r.words ≡ words_of (shape_of job.program)
  pub stands : Stands (words_at job.program r) job.program (last_state job r)
  pub numbers : KeepTheirNumbers job.program (words_at job.program r) (last_state job r)
  pub sound : IsSound job.program job.readings (last_state job r)
  pub lasts : Lasts 0 (last_state job r)

-- The record is one of the job: its events, refusals and settled readings are the account of the queues; what the kernel tells of itself, charge by
-- charge, is legal over these events, each entry at its time; and the words at the end stand for the state after all.
pub record IsLiveRecord (job : JobParts) (r : LiveRecord) : Type 0 where
  pub job_is : r.job ≡ job
  pub queues : (length r.accepted ≡ length job.program.threads) × (length r.charges ≡ length job.program.threads)
  pub events : (t : ℕ) → t < length job.program.threads → AreEvents job r t
  pub refusals : AreRefusals job r
  pub sources : (i : ℕ) → i < length job.program.sources → Settles job r i
  pub charges : length r.kernel ≡ length job.charges
  pub legal : IsAccount job.program (opened job.program r) r.kernel
  pub in_time : AreInTime job r
  pub ends : EndsRight job r
