use Rattle.kernel_core.proofs.Common.{ℕ, List, length, sym, ◌∙◌, subst, AreFirstWords, JobParts, IsJob, first_board, setup_of}
use Rattle.kernel_core.proofs.start.prepare.Goals as goal

pub returns-clause-job : goal.returns-clause-job
returns-clause-job c = c.begin-core.ensures.job ∙ c.in_ok-parts.ensures.job

pub returns-clause-image : goal.returns-clause-image
returns-clause-image c =
    subst (λ (z : JobParts). AreFirstWords z.program z.start c.begin-core.result.board.words) c.in_ok-parts.ensures.job
    (subst (λ (words : List ℕ). AreFirstWords c.in_ok-parts.parts.plan.accepted c.in_ok-parts.parts.start words) (sym c.begin-core.ensures.words) c.in_ok-parts.ensures.image)

pub returns-clause-board : goal.returns-clause-board
returns-clause-board c =
    c.begin-core.ensures.board
    ∙ (λ i. first_board (setup_of (c.in_ok-parts.ensures.job i)) (sym c.begin-core.ensures.words i) (length (c.in_ok-parts.ensures.job i).charges))

pub returns-clause-limits : goal.returns-clause-limits
returns-clause-limits c = subst (λ (z : JobParts). IsJob z) c.in_ok-parts.ensures.job c.in_ok-parts.ensures.limits
