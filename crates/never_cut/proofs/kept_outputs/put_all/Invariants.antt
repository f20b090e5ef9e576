use Rattle.never_cut.proofs.Common.{◌≡◌, ◌++◌, take, stamped}
use Rattle.never_cut.proofs.kept_outputs.put_all.Given as goal

abbrev pub invariant-loop-value : goal.invariant-loop-value
invariant-loop-value l = l.outputs.list.items ≡ l.initial.outputs.list.items ++ stamped l.stamp l.thread.0 (take l.value-index l.values)
