-- The slots of the queues before.
use Rattle.ink_layout.proofs.Common.{Holds, slots_until}
use Rattle.ink_layout.proofs.image.empty_queues.Given as goal

abbrev pub invariant-loop-t : goal.invariant-loop-t
invariant-loop-t l = Holds l.program l.fram (slots_until l.program l.t 0)
