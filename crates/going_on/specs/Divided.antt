-- A job that is divided at a charge, and the runs of its two parts.
use Rattle.std.specs.Prelude.{◌≡◌, ℕ, ◌+◌, ◌<◌, List, [], ◌∷◌, ◌++◌, length, replicate, drop, Some}
use Rattle.job_parts.specs.Job.{JobParts, IsJob, AreFirstWords, words_in}
use Rattle.job_parts.specs.declared.charge.Charge.{Charge}
use Rattle.job_parts.specs.declared.start.Start.{Start}
use Rattle.never_cut.specs.declared.model.Model.{Model}
use Rattle.never_cut.specs.declared.source_model.SourceModel.{SourceModel}
use Rattle.never_cut.specs.State.{source_of}
use Rattle.never_cut.specs.Entries.{Readings, readings_of}
use Rattle.never_cut.specs.ReadOff.{IsReadOff}
use Rattle.kernel_core.specs.Board.{Board}
use Rattle.kernel_core.specs.Core.{setup_of}
use Rattle.kernel_core.specs.Listed.{moves, run, run_first}
use Rattle.kernel_core.specs.Stands.{state}
use Rattle.going_on.specs.Lost.{without_scan}

-- a job, the words with which its run begins, its charges up to a place and behind it, and where the second part begins and with which readings
pub record Division : Type 0 where
  pub job : JobParts
  pub words : List ℕ
  pub front : List Charge
  pub back : List Charge
  pub start : Start
  pub readings : Readings

-- the job of the first charges alone
abbrev pub first_part : Division → JobParts
first_part d = record d.job { charges = d.front }

-- the job of the other charges, from the start on
abbrev pub second_part : Division → JobParts
second_part d = record { program = d.job.program; readings = d.readings; charges = d.back; start = Some d.start }

-- the board after the whole job
abbrev pub whole_run : Division → Board
whole_run d = run (setup_of d.job) d.words d.job.charges

-- after the first part
abbrev pub first_run : Division → Board
first_run d = run (setup_of (first_part d)) d.words d.front

-- and after the second
abbrev pub second_run : Division → Board
second_run d = run (setup_of (second_part d)) d.start.words d.back

-- the board of the whole job after the first part's cuts and turns and so many more
abbrev pub whole_after : Division → ℕ → Board
whole_after d n = run_first (setup_of d.job) d.words d.job.charges (length (moves d.front) + n)

-- the board of the second part after so many
abbrev pub second_after : Division → ℕ → Board
second_after d n = run_first (setup_of (second_part d)) d.start.words d.back n

-- zeros in place of the readings that are settled, and the others behind them
abbrev pub behind_settled : (next : ℕ) → List ℕ → List ℕ
behind_settled next readings = replicate next 0 ++ drop next readings

-- a job whose charges are those of the first part, and then those of the second
pub record IsSplit (d : Division) : Type 0 where
  pub job : IsJob d.job
  pub words : AreFirstWords d.job.program d.job.start d.words
  pub charges : d.job.charges ≡ d.front ++ d.back

-- A job divided: the second part begins with the words that the first run left, with the state that is read off them, and with the readings that the
-- state hasn't settled.
pub record IsDivided (d : Division) : Type 0 where
  pub split : IsSplit d
  pub left : d.start.words ≡ (first_run d).words
  pub read : IsReadOff d.job.program (words_in d.job.program d.start) d.start.model
  pub sources : length d.readings ≡ length d.job.program.sources
  pub readings : (i : ℕ) → i < length d.job.program.sources →
      readings_of d.readings i ≡ behind_settled (source_of d.start.model i).next (readings_of d.job.readings i)

-- the readings of each source behind those that it has settled
abbrev pub all_behind : List SourceModel → Readings → Readings
all_behind [] readings = []
all_behind (x ∷ sources) [] = behind_settled x.next [] ∷ all_behind sources []
all_behind (x ∷ sources) (values ∷ readings) = behind_settled x.next values ∷ all_behind sources readings

-- the state with which a second part begins, behind these first charges
abbrev pub state_left : JobParts → (words : List ℕ) → (front : List Charge) → Model
state_left job words front = without_scan (state (setup_of job) (run (setup_of job) words front))

-- a job divided behind its first charges
abbrev pub divided : JobParts → (words : List ℕ) → (front back : List Charge) → Division
divided job words front back =
    record {
      job = job;
      words = words;
      front = front;
      back = back;
      start = record { words = (run (setup_of job) words front).words; model = state_left job words front };
      readings = all_behind (state_left job words front).sources job.readings;
    }
