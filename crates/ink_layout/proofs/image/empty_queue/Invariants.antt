-- The slots of the queues before, and the slots before.
use Rattle.ink_layout.proofs.Common.{Holds, slots_until}
use Rattle.ink_layout.proofs.image.empty_queue.Given as goal

abbrev pub invariant-loop-n : goal.invariant-loop-n
invariant-loop-n l = Holds l.program l.fram (slots_until l.program l.t l.n)
