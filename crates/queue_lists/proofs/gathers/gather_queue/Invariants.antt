use Rattle.queue_lists.specs.Gathers.{ArePlaced}
use Rattle.queue_lists.proofs.gathers.gather_queue.Given as goal

-- the events of the sources so far
abbrev pub invariant-loop-source : goal.invariant-loop-source
invariant-loop-source l = ArePlaced l.program l.lists l.thread.0 l.source l.accepted.items l.charges.items
