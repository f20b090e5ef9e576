-- The actor stands after the cut.
use Rattle.kernel_actor.proofs.Acting.{cut_now, keeps_account}
use Rattle.kernel_actor.proofs.actor.KernelActor.cut.Goals as goal

pub invariant_of-self : goal.invariant_of-self
invariant_of-self c = (
  cut_now _ _ _ _ _ _ _ c.self.inside.book c.begin.new.self c.self.invariant.0 c.boot-self-inside.ensures.begun c.begin.ensures.done c.begin.ensures.entries c.begin.ensures.begun,
  c.self.invariant.1,
)

pub returns-clause-account : goal.returns-clause-account
returns-clause-account c =
    keeps_account _ _ _ _ _ _ _
    (cut_now _ _ _ _ _ _ _ c.self.inside.book c.begin.new.self c.self.invariant.0 c.boot-self-inside.ensures.begun c.begin.ensures.done c.begin.ensures.entries c.begin.ensures.begun)
