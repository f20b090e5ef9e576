use Rattle.std.proofs.Common.{ℕ, sym, length, arith}
use Rattle.prog_check.specs.Lookup.{instr_at}
use Rattle.ink_plan.specs.Code.{jumps_up, target_of}
use Rattle.ink_plan.proofs.Below.{below_not}
use Rattle.ink_plan.proofs.code.goes_up.Goals as goal

pub returns-then-not-jumps_up : goal.returns-then-not-jumps_up
returns-then-not-jumps_up c =
    sym (below_not (λ (at : ℕ). jumps_up at (target_of (instr_at c.args.task.now at))) c.loop-at.at (length c.args.task.now.code) c.loop-at.invariant (cc) (omega arith))
