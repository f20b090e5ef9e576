-- The laws, from the first board on.
use Rattle.kernel_core.proofs.Firsts.{every_prefix, image_prefixes, one_is_finished}
use Rattle.kernel_core.proofs.Scanned.{every_commit_scanned}
use Rattle.kernel_core.proofs.Settled.{sources_settle}
use Rattle.kernel_core.proofs.laws.boards_stand.Goals as goal

pub returns : goal.returns
returns c = record { stands = every_prefix; image = image_prefixes; finished = one_is_finished; scanned = every_commit_scanned; settled = sources_settle }
