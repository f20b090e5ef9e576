-- The service goes on from the words of the board, by what its registers know.
use Rattle.kernel_core.proofs.Resting.{service_goes_on}
use Rattle.kernel_core.proofs.board.Core.remaining.Goals as goal

pub remaining-requires : goal.remaining-requires
remaining-requires c = service_goes_on _ _ _ _ _ _ c.self.invariant.1 c.in-Task.machine c.in-Task.is
