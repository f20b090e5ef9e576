use Rattle.std.proofs.Common.{◌≡◌, true}
use Rattle.ink_plan.specs.Code.{all_below}
use Rattle.ink_plan.specs.Plans.{is_rest}
use Rattle.ink_plan.proofs.checking.are_rests.Given as goal

abbrev pub invariant-loop-at : goal.invariant-loop-at
invariant-loop-at l = all_below (is_rest l.task l.rest) l.at ≡ true
