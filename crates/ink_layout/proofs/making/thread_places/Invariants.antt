-- The places of the threads before.
use Rattle.ink_layout.proofs.Common.{AreThreadPlaces}
use Rattle.ink_layout.proofs.making.thread_places.Given as goal

abbrev pub invariant-loop-t : goal.invariant-loop-t
invariant-loop-t l = AreThreadPlaces l.threads l.starts l.from l.t l.places
