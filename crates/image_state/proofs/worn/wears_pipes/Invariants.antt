use Rattle.image_state.proofs.Common.{◌≡◌, false, by_place, any_below, wears_pipe}
use Rattle.image_state.proofs.worn.wears_pipes.Given as goal

abbrev pub invariant-loop-q : goal.invariant-loop-q
invariant-loop-q l = any_below (wears_pipe l.plan.accepted (by_place l.plan.accepted l.words)) l.q ≡ false
