-- The first so many threads' places are there.
use Rattle.std.proofs.Common.{◌≡◌, map, take}
use Rattle.kernel_actor.specs.Lays.{places_in}
use Rattle.kernel_actor.proofs.queues.places_of.Given as goal

abbrev pub invariant-loop-thread : goal.invariant-loop-thread
invariant-loop-thread l = (l.places.items ≡ map places_in (take l.thread-index l.program.threads)) × (l.thread-items ≡ l.program.threads)
