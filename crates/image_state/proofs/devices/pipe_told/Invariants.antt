use Rattle.image_state.proofs.Common.{◌≡◌, by_place, each_below, told_item}
use Rattle.image_state.proofs.devices.pipe_told.Given as goal

abbrev pub invariant-loop-k : goal.invariant-loop-k
invariant-loop-k l = l.items.items ≡ each_below (told_item l.plan.accepted (by_place l.plan.accepted l.words) l.pipe.0) l.k
