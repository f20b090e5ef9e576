-- The run of a job, its record, and its text.
use Rattle.std.specs.Prelude.{◌≡◌, ℕ, ◌^◌, ◌<◌, List, ◌++◌, length}
use Rattle.ink_base.specs.declared.entry.Entry.{Entry}
use Rattle.job_parts.specs.Job.{JobParts, first_of, AreFirstWords}
use Rattle.never_cut.specs.Journal.{IsLegal}
use Rattle.never_cut.specs.Laws.{ReadingsInOrder, EachEventOnce, StatesByCommits, StampsByCommits}
use Rattle.kernel_core.specs.declared.run_record.RunRecord.{RunRecord}
use Rattle.kernel_core.specs.Board.{Board, first_board, journal}
use Rattle.kernel_core.specs.Stands.{BoardStands}
use Rattle.kernel_core.specs.Listed.{run, run_first, moves}
use Rattle.kernel_core.specs.Core.{setup_of}
use Rattle.kernel_core.specs.Scanned.{ChargesAreScanned}
use Rattle.kernel_core.specs.Answered.{ChargesArePaced}
use Rattle.kernel_core.specs.Settled.{ChargesSettle}
use Rattle.kernel_core.specs.Costed.{PicksCommit}
pub use Rattle.kernel_core.specs.RunRecords.{entries_of, journal_in, state_in}
use Rattle.ink_report.specs.declared.flags.Flags.{Flags}
use Rattle.ink_report.specs.Report as report

-- the board of a job after the first so many cuts and turns that it lists, from these words on
abbrev pub board_after : JobParts → List ℕ → ℕ → Board
board_after job words n = run_first (setup_of job) words job.charges n

-- and after all of them
abbrev pub board_run : JobParts → List ℕ → Board
board_run job words = run (setup_of job) words job.charges

-- The board ran the job from the words of its start on, or else from those of the first image, and the record is what it left behind. After each access and each cut the
-- words stood for the never-cut kernel after the journal so far, which was legal and a beginning of the record's. The record's journal is
-- legal, and keeps the laws of legal journals. In each charge a commit stands behind a scan of that charge, so many scans are answered as its kernel's
-- accesses allow, and every source settles as many readings as its accesses are enough for. Where a scan ended with a pick, its commit was the last of as many
-- accesses of the kernel in that charge as its service costs, if the charge had so many.
pub record IsRunOf (job : JobParts) (r : RunRecord) : Type 0 where
  pub job_is : r.job ≡ job
  pub first : List ℕ
  pub image : AreFirstWords job.program job.start first
  pub charges : r.charges ≡ (board_run job first).charges
  pub words : r.words ≡ (board_run job first).words
  pub stands : (n : ℕ) → BoardStands (setup_of job) (board_after job first n)
  pub grows : (n : ℕ) → (more : List Entry) × (journal_in r ≡ journal (board_after job first n) ++ more)
  pub legal : IsLegal job.program job.readings (first_of job) (journal_in r)
  pub few : length (journal_in r) < 2 ^ 32
  pub in_order : ReadingsInOrder job.program job.readings (first_of job) (journal_in r)
  pub each_once : EachEventOnce job.program job.readings (first_of job) (journal_in r)
  pub states : StatesByCommits job.program job.readings (first_of job) (journal_in r)
  pub stamps : StampsByCommits job.program job.readings (first_of job) (journal_in r)
  pub scanned : ChargesAreScanned r.charges
  pub paced : ChargesArePaced (setup_of job) r.charges
  pub settled : ChargesSettle job.program r.charges
  pub commits : PicksCommit (setup_of job) (first_board (setup_of job) first (length job.charges)) (moves job.charges)

-- the text of a run: the outputs that its journal committed, the summary, and what is shown besides
abbrev pub run_text_of : RunRecord → Flags → List ℕ
run_text_of r flags = report.run_text r.job.program (state_in r) (journal_in r) (length r.job.charges) flags
