-- The first so many sources' threads are there.
use Rattle.std.proofs.Common.{◌≡◌, take}
use Rattle.kernel_actor.proofs.queues.sources_of.Given as goal

abbrev pub invariant-loop-source : goal.invariant-loop-source
invariant-loop-source l = (l.sources.items ≡ take l.source-index l.program.sources) × (l.source-items ≡ l.program.sources)
