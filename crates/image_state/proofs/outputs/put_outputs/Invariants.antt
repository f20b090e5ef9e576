use Rattle.image_state.proofs.Common.{◌≡◌, ◌++◌, by_place, each_below, told_output}
use Rattle.image_state.proofs.outputs.put_outputs.Given as goal

abbrev pub invariant-loop-index : goal.invariant-loop-index
invariant-loop-index l = l.outputs.items ≡ l.initial.outputs.items ++ each_below (told_output (by_place l.plan.accepted l.words) l.thread.0) l.index
