use Rattle.image_state.proofs.Common.{◌≡◌, by_place, each_below, told_timer}
use Rattle.image_state.proofs.devices.timers_told.Given as goal

abbrev pub invariant-loop-j : goal.invariant-loop-j
invariant-loop-j l = l.timers.items ≡ each_below (told_timer l.plan.accepted (by_place l.plan.accepted l.words)) l.j
