-- The table of a sweep.
use Rattle.std.specs.Prelude.{◌≡◌, ℕ, ◌+◌, ◌≤◌, List, length, sum_by, slice_index_or}
use Rattle.job_parts.specs.Job.{JobParts, AreFirstWords}
use Rattle.never_cut.specs.declared.model.Model.{Model}
use Rattle.never_cut.specs.declared.thread_model.ThreadModel.{ThreadModel}
use Rattle.kernel_core.specs.Core.{setup_of, turns_in}
use Rattle.kernel_core.specs.Listed.{run}
use Rattle.kernel_core.specs.Stands.{state}
use Rattle.ink_report.specs.declared.sweep.SweepRow.{SweepRow}
use Rattle.ink_report.specs.declared.sweep.SweepTable.{SweepTable}
use Rattle.cut_sweep.specs.Cut.{cut_to}

-- how many events all threads of a state hold
abbrev pub held_in : Model → ℕ
held_in m = sum_by (λ (x : ThreadModel). length x.held) m.threads

-- the numbers of a state, to which so many turns of the first charge led
abbrev pub row_of : (turns : ℕ) → Model → SweepRow
row_of turns m = record { cut = turns; outputs = length m.outputs; commits = m.commits; held = held_in m }

-- the state of the never-cut kernel after the journal of the whole run of a job, from these words on
abbrev pub state_after : JobParts → List ℕ → Model
state_after job words = state (setup_of job) (run (setup_of job) words job.charges)

-- The row has the numbers of the state after the run of the job whose first charge is cut to so many turns. The run begins at the words of the job's start,
-- or else at those of the first image.
pub record IsRowOf (job : JobParts) (turns : ℕ) (row : SweepRow) : Type 0 where
  pub first : List ℕ
  pub image : AreFirstWords job.program job.start first
  pub numbers : row ≡ row_of turns (state_after (cut_to job turns) first)

-- a row behind the last
abbrev pub no_row : SweepRow
no_row = record { cut = 0; outputs = 0; commits = 0; held = 0 }

-- a row for each number of turns, from none to all that the first charge lists
pub record IsSweepOf (job : JobParts) (table : SweepTable) : Type 0 where
  pub count : length table.rows ≡ turns_in job 0 + 1
  pub each : (turns : ℕ) → turns ≤ turns_in job 0 → IsRowOf job turns (slice_index_or table.rows turns no_row)
