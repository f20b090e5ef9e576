use Rattle.queue_lists.specs.Puts.{ArePut}
use Rattle.queue_lists.proofs.puts.put_events.Given as goal

-- the readings so far are put
abbrev pub invariant-loop-reading : goal.invariant-loop-reading
invariant-loop-reading l = ArePut l.source l.published l.reading-index l.fn.accepted.items l.accepted.items l.fn.charges.items l.charges.items
