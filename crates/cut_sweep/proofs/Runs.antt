-- The whole run of a job, and of one whose first charge is cut: its board holds, and its words tell the row of the state after its journal.
use Rattle.std.proofs.Common.{◌≡◌, ℕ, List, length, refl, sym, ap, ◌∙◌, subst, Option, Some, None}
use Rattle.std.specs.List.{All}
use Rattle.std.specs.Option.{ForSome}
use Rattle.task_isa.specs.declared.program.Program.{Program}
use Rattle.job_parts.specs.Job.{JobParts, IsJob, IsStart, AreFirstWords, first_of, first_model}
use Rattle.job_parts.specs.declared.start.Start.{Start}
use Rattle.fram_words.specs.Shape.{memory_of}
use Rattle.ink_layout.specs.Shape.{shape_of}
use Rattle.never_cut.specs.Within.{Lasts}
use Rattle.never_cut.proofs.SoundStates.{sound_after}
use Rattle.never_cut.specs.Sound.{IsSound}
use Rattle.kernel_core.specs.Board.{Setup, Board, journal, first_board, moved_by}
use Rattle.kernel_core.specs.Core.{setup_of}
use Rattle.kernel_core.specs.Listed.{moves, run}
use Rattle.kernel_core.specs.Stands.{memory, state}
use Rattle.kernel_core.specs.kept.Holds.{Holds}
use Rattle.kernel_core.proofs.Firsts.{first_holds}
use Rattle.kernel_core.proofs.JobMoves.{job_setup, job_first, job_moves, job_range}
use Rattle.kernel_core.proofs.Runs.{moves_hold}
use Rattle.kernel_core.proofs.Standing.{board_stands}
use Rattle.ink_report.specs.Conditions.{NamesThread, FitsProgram}
use Rattle.ink_report.proofs.Reportable.{open_parts, legal_reportable}
use Rattle.cut_sweep.specs.Cut.{cut_to}
use Rattle.cut_sweep.specs.Sweep.{row_of, state_after}
use Rattle.cut_sweep.specs.kept.Told.{told_row, AreTold}
use Rattle.cut_sweep.proofs.Cuts.{cut_length, cuts_are_jobs}
use Rattle.cut_sweep.proofs.Tells.{row_told, are_told}

-- the state at which a run begins names parts of its program
first_fits : (program : Program) (readings : List (List ℕ)) (start : Option Start) → ForSome start (IsStart program readings) → FitsProgram program (first_model program start)
first_fits program readings None is = open_parts program
first_fits program readings (Some start) is =
    let there = is start refl in
    record { threads = there.read.shape.threads; sources = there.read.shape.sources; outputs = λ k d lt. (there.read.outputs k d lt).0 }

module _ (job : JobParts) (words : List ℕ) (is : IsJob job) (image : AreFirstWords job.program job.start words) where
  -- the board after the whole run
  abbrev board : Board
  board = run (setup_of job) words job.charges

  held : Holds (setup_of job) (length job.charges) board × Lasts 0 (state (setup_of job) board)
  held =
      let s : Setup = setup_of job in
      moves_hold s (length job.charges) (first_board s words (length job.charges)) (moves job.charges) (job_setup job is)
      (first_holds s words (length job.charges) (job_setup job is) (job_first job words is image)) (job_moves job is) (job_range job is)

  sound : IsSound job.program job.readings (state_after job words)
  sound =
      let g = job_setup job is in
      sound_after job.program job.readings (first_of job) (journal board) g.accepted g.short g.start.sound held.0.legal

  named : All (NamesThread job.program) (state_after job words).outputs
  named =
      (legal_reportable job.program job.readings (first_of job) (journal board) (first_fits job.program job.readings job.start is.start) held.0.legal).state.outputs

  pub run_told : (cut : ℕ) → told_row job.program (memory (setup_of job) board) cut (length job.program.threads) ≡ row_of cut (state_after job words)
  run_told cut =
      row_told job.program job.readings (memory (setup_of job) board) (state_after job words) is.accepted sound
      (board_stands (setup_of job) (length job.charges) board (job_setup job is) held.0 held.1).stands cut named

  pub run_are_told : AreTold job.program (memory (setup_of job) board)
  run_are_told =
      are_told job.program job.readings (memory (setup_of job) board) (state_after job words) is.accepted sound
      (board_stands (setup_of job) (length job.charges) board (job_setup job is) held.0 held.1).stands held.1

-- from words on with which a run of the job can begin, with its first charge cut
module _ (job : JobParts) (turns : ℕ) (first words : List ℕ) (begun after : Board) (is : IsJob job) (image : AreFirstWords job.program job.start first)
    (begins : begun ≡ first_board (setup_of job) first (length job.charges)) (runs : after ≡ moved_by (setup_of job) begun (moves (cut_to job turns).charges))
    (ends : words ≡ after.words) where
  board_after : after ≡ run (setup_of job) first (cut_to job turns).charges
  board_after =
      runs ∙ ap (λ (b : Board). moved_by (setup_of job) b (moves (cut_to job turns).charges))
      (begins ∙ ap (λ n. first_board (setup_of job) first n) (sym (cut_length turns job.charges)))

  memory_after : memory_of (shape_of job.program) words ≡ memory (setup_of job) (run (setup_of job) first (cut_to job turns).charges)
  memory_after = ap (λ l. memory_of (shape_of job.program) l) (ends ∙ ap (λ (b : Board). b.words) board_after)

  pub are_told_after : AreTold job.program (memory_of (shape_of job.program) words)
  are_told_after = subst (AreTold job.program) (sym memory_after) (run_are_told (cut_to job turns) first (cuts_are_jobs job turns is) image)

  pub row_told_after : told_row job.program (memory_of (shape_of job.program) words) turns (length job.program.threads) ≡ row_of turns (state_after (cut_to job turns) first)
  row_told_after = ap (λ m. told_row job.program m turns (length job.program.threads)) memory_after ∙ run_told (cut_to job turns) first (cuts_are_jobs job turns is) image turns
