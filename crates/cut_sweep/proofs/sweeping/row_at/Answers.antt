use Rattle.std.proofs.Common.{◌≡◌, ℕ, List, length, sym, ap, ◌∙◌, subst}
use Rattle.task_isa.specs.declared.program.Program.{Program}
use Rattle.fram_words.specs.Shape.{memory_of}
use Rattle.ink_layout.specs.Shape.{shape_of}
use Rattle.job_parts.specs.Job.{JobParts, AreFirstWords}
use Rattle.kernel_core.specs.Board.{Board, first_board}
use Rattle.kernel_core.specs.Core.{setup_of}
use Rattle.cut_sweep.specs.kept.Told.{told_row, AreTold}
use Rattle.cut_sweep.proofs.Runs.{are_told_after, row_told_after}
use Rattle.cut_sweep.proofs.sweeping.row_at.Goals as goal

-- the words with which the core's job begins are those of an equal job, and so is its board
words_begin : (own job : JobParts) (first : List ℕ) → own ≡ job → AreFirstWords own.program own.start first → AreFirstWords job.program job.start first
words_begin own job first same image = subst (λ (z : JobParts). AreFirstWords z.program z.start first) same image

board_begins : (own job : JobParts) (b : Board) → own ≡ job → b ≡ first_board (setup_of own) b.words (length own.charges) → b ≡ first_board (setup_of job) b.words (length job.charges)
board_begins own job b same is = is ∙ ap (λ (z : JobParts). first_board (setup_of z) b.words (length z.charges)) same

pub told_row-requires : goal.told_row-requires
told_row-requires c =
    let job : JobParts = c.args.job.now in
    let b : Board = c.begin_again.new.self.board in
    subst (λ (program : Program). AreTold program (memory_of (shape_of program) c.words.result.now)) (sym c.requires.plan)
    (are_told_after job c.args.turns b.words c.words.result.now b c.run_cut.new.core.board c.charges-charges.ensures.job
    (words_begin c.begin_again.new.self.job job b.words (c.begin_again.ensures.job ∙ c.requires.same) c.begin_again.ensures.image)
    (board_begins c.args.core.now.job job b c.requires.same c.begin_again.ensures.board) c.run_cut.ensures.board c.words.ensures.words)

pub returns-clause-row : goal.returns-clause-row
returns-clause-row c =
    let job : JobParts = c.args.job.now in
    let b : Board = c.begin_again.new.self.board in
    let image : AreFirstWords job.program job.start b.words =
    words_begin c.begin_again.new.self.job job b.words (c.begin_again.ensures.job ∙ c.requires.same) c.begin_again.ensures.image in
    record {
      first = b.words;
      image = image;
      numbers =
          c.told_row.ensures
          ∙ (ap (λ (program : Program). told_row program (memory_of (shape_of program) c.words.result.now) c.args.turns (length program.threads)) c.requires.plan
          ∙ row_told_after job c.args.turns b.words c.words.result.now b c.run_cut.new.core.board c.charges-charges.ensures.job image
          (board_begins c.args.core.now.job job b c.requires.same c.begin_again.ensures.board) c.run_cut.ensures.board c.words.ensures.words);
    }
