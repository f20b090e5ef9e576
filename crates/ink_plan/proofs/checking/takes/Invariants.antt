use Rattle.std.proofs.Common.{◌≡◌, ◌+◌, take}
use Rattle.ink_plan.specs.Plans.{weight_of}
use Rattle.ink_plan.proofs.checking.takes.Given as goal

abbrev pub invariant-loop-at : goal.invariant-loop-at
invariant-loop-at l = weight_of l.task (take l.at-index l.path) + l.left ≡ l.count
