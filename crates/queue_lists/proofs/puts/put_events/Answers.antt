use Rattle.std.proofs.Common.{rules, arith}
use Rattle.event_queue.proofs.Basics.{at_get}
use Rattle.queue_lists.proofs.Putting.{puts_one}
use Rattle.queue_lists.proofs.puts.put_events.Goals as goal

pub index_mut-requires : goal.index_mut-requires
index_mut-requires c =
    let at = at_get c.args.published.now c.loop-reading.reading-index (record { position = 0; reading = 0; value = 0; charge = 0 }) (search rules) in
    let under = c.requires.events.below c.loop-reading.reading-index _ at in
    omega (arith, under, c.loop-reading.invariant.size, c.loop-reading.accepted.ok)

pub index_mut-requires-in-loop-reading : goal.index_mut-requires-in-loop-reading
index_mut-requires-in-loop-reading c =
    let at = at_get c.args.published.now c.loop-reading.reading-index (record { position = 0; reading = 0; value = 0; charge = 0 }) (search rules) in
    let under = c.requires.dates.below c.loop-reading.reading-index _ at in
    omega (arith, under, c.loop-reading.invariant.dated, c.loop-reading.charges.ok)

pub loop-reading-preserved : goal.loop-reading-preserved
loop-reading-preserved c =
    let at = at_get c.args.published.now c.loop-reading.reading-index (record { position = 0; reading = 0; value = 0; charge = 0 }) (search rules) in
    puts_one c.args.source c.args.published.now c.loop-reading.reading-index _ c.args.accepted.now.items c.loop-reading.accepted.items c.args.charges.now.items c.loop-reading.charges.items at c.requires.events c.requires.dates c.loop-reading.invariant
