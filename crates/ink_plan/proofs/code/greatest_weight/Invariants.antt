use Rattle.std.proofs.Common.{◌≡◌, ◌≤◌, take}
use Rattle.ink_plan.specs.Code.{greatest_weight}
use Rattle.ink_plan.proofs.code.greatest_weight.Given as goal

abbrev pub invariant-loop-instr : goal.invariant-loop-instr
invariant-loop-instr l = record { same : l.greatest ≡ greatest_weight (take l.instr-index l.code); few : l.greatest ≤ 6 }
