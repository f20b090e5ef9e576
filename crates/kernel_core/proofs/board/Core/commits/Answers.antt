use Rattle.kernel_core.proofs.Common.{◌≡◌, subst, View, moves, setup_of}
use Rattle.kernel_core.specs.Costed.{PicksCommit}
use Rattle.kernel_core.proofs.CostedRuns.{core_commits}
use Rattle.kernel_core.proofs.board.Core.commits.Goals as goal

pub returns : goal.returns
returns c =
    subst (λ (v : View). v.board.begun ≡ 0 → PicksCommit (setup_of v.job) v.board (moves v.job.charges)) c.self.view_is
    (λ none. core_commits _ _ _ _ _ _ c.self.invariant.1 c.self.invariant.0.0 none)
    c.requires
