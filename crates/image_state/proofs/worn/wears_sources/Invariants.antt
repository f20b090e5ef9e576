use Rattle.image_state.proofs.Common.{◌≡◌, false, by_place, any_below, wears_source}
use Rattle.image_state.proofs.worn.wears_sources.Given as goal

abbrev pub invariant-loop-i : goal.invariant-loop-i
invariant-loop-i l = any_below (wears_source l.plan.accepted l.listed (by_place l.plan.accepted l.words)) l.i ≡ false
