use Rattle.std.proofs.Common.{◌≡◌, take, false}
use Rattle.std.specs.List.{list_any}
use Rattle.ink_plan.specs.Code.{may_trap}
use Rattle.ink_plan.proofs.code.has_trap.Given as goal

abbrev pub invariant-loop-instr : goal.invariant-loop-instr
invariant-loop-instr l = list_any may_trap (take l.instr-index l.code) ≡ false
