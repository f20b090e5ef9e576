use Rattle.std.proofs.Common.{List, length, subst}
use Rattle.irq_source.specs.declared.lists.Published.{Published}
use Rattle.queue_lists.specs.Gathers.{source}
use Rattle.queue_lists.specs.Puts.{ArePut}
use Rattle.queue_lists.proofs.Gathering.{places_next}
use Rattle.queue_lists.proofs.gathers.gather_queue.Goals as goal

pub loop-source-preserved : goal.loop-source-preserved
loop-source-preserved c =
    places_next c.args.thread.0 c.loop-source.source c.requires.places c.loop-source.invariant
    (subst (λ (list : List Published). ArePut (source c.loop-source.source) list (length list) c.loop-source.accepted.items c.put_events.new.accepted.items c.loop-source.charges.items c.put_events.new.charges.items) c.accepted_into.ensures c.put_events.ensures)
