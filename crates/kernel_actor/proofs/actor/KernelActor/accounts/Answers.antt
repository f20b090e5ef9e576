-- What stands is an account.
use Rattle.std.proofs.Common.{subst}
use Rattle.kernel_actor.specs.Acting.{KeepsAccount}
use Rattle.kernel_actor.proofs.Acting.{keeps_account}
use Rattle.kernel_actor.proofs.actor.KernelActor.accounts.Goals as goal

pub returns : goal.returns
returns c = subst KeepsAccount c.self.view_is (keeps_account _ _ _ _ _ _ _ c.self.invariant.0)
