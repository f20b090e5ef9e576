use Rattle.image_state.proofs.Common.{◌≡◌, by_place, each_below, told_source_model}
use Rattle.image_state.proofs.devices.sources_told.Given as goal

abbrev pub invariant-loop-i : goal.invariant-loop-i
invariant-loop-i l = l.sources.items ≡ each_below (told_source_model l.plan.accepted (by_place l.plan.accepted l.words)) l.i
