-- The code of the tasks before, and the instructions before.
use Rattle.ink_layout.proofs.Common.{Holds, code_until}
use Rattle.ink_layout.proofs.image.store_task.Given as goal

abbrev pub invariant-loop-n : goal.invariant-loop-n
invariant-loop-n l = Holds l.program l.fram (code_until l.program l.x l.n)
