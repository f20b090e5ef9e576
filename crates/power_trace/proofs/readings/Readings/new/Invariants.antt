use Rattle.power_trace.proofs.Common.{◌≡◌, [], replicate}
use Rattle.power_trace.proofs.readings.Readings.new.Given as goal

abbrev pub invariant-loop-i : goal.invariant-loop-i
invariant-loop-i l = l.lists.items ≡ replicate l._i []
