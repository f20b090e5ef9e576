use Rattle.std.proofs.Common.{◌≡◌, ℕ, true}
use Rattle.prog_check.specs.Lookup.{instr_at}
use Rattle.ink_plan.specs.Code.{all_below, jumps_up, target_of}
use Rattle.ink_plan.proofs.code.goes_up.Given as goal

abbrev pub invariant-loop-at : goal.invariant-loop-at
invariant-loop-at l = all_below (λ (at : ℕ). jumps_up at (target_of (instr_at l.task at))) l.at ≡ true
