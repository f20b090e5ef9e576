use Rattle.std.proofs.Common.{◌≡◌, drop}
use Rattle.ink_plan.specs.Plans.{walks}
use Rattle.ink_plan.proofs.checking.walks.Given as goal

abbrev pub invariant-loop-next : goal.invariant-loop-next
invariant-loop-next l = walks l.task 0 l.path ≡ walks l.task l.at (drop l.next-index l.path)
