-- What stands is what it would leave.
use Rattle.std.proofs.Common.{subst}
use Rattle.kernel_actor.specs.Acting.{LeavesState}
use Rattle.kernel_actor.proofs.Ending.{ends_now}
use Rattle.kernel_actor.proofs.actor.KernelActor.ends.Goals as goal

pub returns : goal.returns
returns c = subst LeavesState c.self.view_is (ends_now _ _ _ _ _ _ _ c.self.invariant.0)
