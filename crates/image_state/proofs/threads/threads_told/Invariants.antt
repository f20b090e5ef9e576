use Rattle.image_state.proofs.Common.{◌≡◌, by_place, each_below, told_thread}
use Rattle.image_state.proofs.threads.threads_told.Given as goal

abbrev pub invariant-loop-t : goal.invariant-loop-t
invariant-loop-t l = l.threads.items ≡ each_below (told_thread l.plan.accepted (by_place l.plan.accepted l.words)) l.t
