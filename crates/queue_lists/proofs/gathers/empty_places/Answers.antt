use Rattle.std.proofs.Common.{length, ap, arith}
use Rattle.queue_lists.proofs.Gathering.{places_fit}
use Rattle.queue_lists.proofs.gathers.empty_places.Goals as goal

pub add_places-requires-clause-events : goal.add_places-requires-clause-events
add_places-requires-clause-events c =
    let fits = places_fit c.args.program.now c.args.lists.now c.args.thread.0 c.loop-source.source c.loop-source-test.true in
    omega (arith, fits, ap length c.accepted_into-number.ensures, c.loop-source.invariant.events, c.loop-source.invariant.event_room, c.requires.room.events, c.into_lists-accepted.ensures.room.0)

pub add_places-requires-clause-charges : goal.add_places-requires-clause-charges
add_places-requires-clause-charges c =
    let fits = places_fit c.args.program.now c.args.lists.now c.args.thread.0 c.loop-source.source c.loop-source-test.true in
    omega (arith, fits, ap length c.accepted_into-number.ensures, c.loop-source.invariant.charges, c.loop-source.invariant.charge_room, c.requires.room.charges, c.into_lists-accepted.ensures.room.1)
