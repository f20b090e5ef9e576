-- The code of the tasks before.
use Rattle.ink_layout.proofs.Common.{Holds, code_until}
use Rattle.ink_layout.proofs.image.store_code.Given as goal

abbrev pub invariant-loop-x : goal.invariant-loop-x
invariant-loop-x l = Holds l.program l.fram (code_until l.program l.x 0)
