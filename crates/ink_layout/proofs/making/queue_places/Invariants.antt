-- The places of the threads before.
use Rattle.ink_layout.proofs.Common.{AreQueuePlaces}
use Rattle.ink_layout.proofs.making.queue_places.Given as goal

abbrev pub invariant-loop-t : goal.invariant-loop-t
invariant-loop-t l = AreQueuePlaces l.threads l.starts l.from l.t l.places
