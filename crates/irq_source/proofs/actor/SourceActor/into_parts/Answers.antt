use Rattle.std.proofs.Common.{◌≤◌, ◌+◌, length, ap, subst, arith}
use Rattle.irq_source.specs.Acting.{Acting}
use Rattle.irq_source.specs.declared.lists.Declined.{Declined}
use Rattle.irq_source.proofs.Rooms.{settled_few}
use Rattle.irq_source.proofs.actor.SourceActor.into_parts.Goals as goal

pub returns-clause-few : goal.returns-clause-few
returns-clause-few c =
    let self = c.self.inside in
    let settled = settled_few self.pusher.port (length self.readings.items) self.pusher.row.accepted self.pusher.row.next self.src _ self.pusher.row.stage c.self.invariant.stands in
    let all = ap length c.into_vecs-accepted.ensures.1 in
    let few : length c.into_vecs-accepted.result.1.items ≤ length self.readings.items + self.begun = omega (arith, all, c.self.invariant.room.few, settled) in
    subst (λ (a : Acting). length c.into_vecs-accepted.result.1.items ≤ length a.readings + a.begun) c.self.view_is few
