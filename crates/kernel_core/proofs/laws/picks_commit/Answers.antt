-- The law of when a pick commits, from the first board on.
use Rattle.kernel_core.proofs.Costed.{every_pick_commits}
use Rattle.kernel_core.proofs.laws.picks_commit.Goals as goal

pub returns : goal.returns
returns c = record { commits = every_pick_commits }
