use Rattle.image_state.proofs.Common.{◌≡◌, false, by_place, any_below, wears_thread}
use Rattle.image_state.proofs.worn.wears_threads.Given as goal

abbrev pub invariant-loop-t : goal.invariant-loop-t
invariant-loop-t l = any_below (wears_thread l.plan.accepted l.listed (by_place l.plan.accepted l.words)) l.t ≡ false
