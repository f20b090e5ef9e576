use Rattle.kernel_core.proofs.Common.{◌<◌, subst, View, turn, IsActor, setup_of}
use Rattle.kernel_core.specs.Costed.{CountsDown}
use Rattle.kernel_core.proofs.CostedRuns.{core_counts}
use Rattle.kernel_core.proofs.board.Core.counts_down.Goals as goal

pub returns : goal.returns
returns c =
    subst (λ (v : View). 0 < v.room → IsActor (setup_of v.job) c.args.actor → CountsDown (setup_of v.job) v.board c.args.actor (turn (setup_of v.job) v.board c.args.actor)) c.self.view_is
    (λ some on. core_counts _ _ _ _ _ _ c.args.actor c.self.invariant.1 some on)
    c.requires.room c.requires.known
