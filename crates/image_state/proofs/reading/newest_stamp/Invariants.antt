use Rattle.image_state.proofs.Common.{by_place, IsNewest}
use Rattle.image_state.proofs.reading.newest_stamp.Given as goal

abbrev pub invariant-loop-t : goal.invariant-loop-t
invariant-loop-t l = IsNewest (by_place l.plan.accepted l.words) l.t l.newest
