use Rattle.kernel_core.proofs.Common.{ℕ, List, sym, ap, ◌∙◌, subst, Made, Board, setup_of, IsSameBut, src_of}
use Rattle.kernel_core.specs.Costed.{CountsDown}
use Rattle.kernel_core.proofs.Settling.{refusals_keep, skips_store}
use Rattle.kernel_core.proofs.board.Core.step.Goals as goal

pub returns-clause-refused : goal.returns-clause-refused
returns-clause-refused c = λ source e.
    ap (λ (z : Board). z.words) c.turn-made.ensures.board
    ∙ refusals_keep (setup_of c.args.self.now.job) c.args.self.now.board c.args.actor source (ap (λ (z : Made). z.entry) (sym c.turn-made.ensures.made) ∙ e)

pub returns-clause-skipped : goal.returns-clause-skipped
returns-clause-skipped c = λ source e.
    subst (λ (z : List ℕ). IsSameBut (src_of (setup_of c.args.self.now.job) source) c.args.self.now.board.words z)
    (sym (ap (λ (z : Board). z.words) c.turn-made.ensures.board))
    (skips_store (setup_of c.args.self.now.job) c.args.self.now.board c.args.actor source (ap (λ (z : Made). z.entry) (sym c.turn-made.ensures.made) ∙ e))

pub returns-clause-counts : goal.returns-clause-counts
returns-clause-counts c =
    subst (λ (z : Board). CountsDown (setup_of c.args.self.now.job) c.args.self.now.board c.args.actor z) (sym c.turn-made.ensures.board) c.counts_down.ensures
