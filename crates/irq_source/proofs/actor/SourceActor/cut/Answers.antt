use Rattle.irq_source.proofs.Common.{subst, sym, ◌<◌}
use Rattle.irq_source.specs.Acting.{Acting}
use Rattle.irq_source.proofs.Told.{actor_cut}
use Rattle.irq_source.proofs.actor.SourceActor.cut.Goals as goal

pub invariant_of-self : goal.invariant_of-self
invariant_of-self c = actor_cut {pusher = c.self.inside.pusher} c.boot-self-inside.result c.boot-self-inside.ensures.port c.boot-self-inside.ensures.row (subst (λ (a : Acting). a.begun < a.charges) (sym c.self.view_is) c.requires.charge) c.self.invariant
