use Rattle.image_state.proofs.Common.{◌≡◌, by_place, each_below, told_pipe}
use Rattle.image_state.proofs.devices.pipes_told.Given as goal

abbrev pub invariant-loop-q : goal.invariant-loop-q
invariant-loop-q l = l.pipes.items ≡ each_below (told_pipe l.plan.accepted (by_place l.plan.accepted l.words)) l.q
