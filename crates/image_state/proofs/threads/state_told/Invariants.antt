use Rattle.image_state.proofs.Common.{◌≡◌, by_place, each_below, state_number}
use Rattle.image_state.proofs.threads.state_told.Given as goal

abbrev pub invariant-loop-index : goal.invariant-loop-index
invariant-loop-index l = l.numbers.items ≡ each_below (state_number (by_place l.plan.accepted l.words) l.thread.0) l.index
