use Rattle.kernel_core.proofs.Common.{AreFirstPushers}
use Rattle.kernel_core.proofs.start.first_pushers.Given as goal

abbrev pub invariant-loop-i : goal.invariant-loop-i
invariant-loop-i l = AreFirstPushers l.plan.accepted l.i l.pushers.items
