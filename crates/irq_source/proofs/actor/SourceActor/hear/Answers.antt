use Rattle.irq_source.proofs.Told.{actor_heard}
use Rattle.irq_source.proofs.actor.SourceActor.hear.Goals as goal

pub invariant_of-self : goal.invariant_of-self
invariant_of-self c = actor_heard c.args.note c.hear.ensures c.self.invariant
