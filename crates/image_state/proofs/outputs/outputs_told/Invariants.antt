use Rattle.image_state.proofs.Common.{◌≡◌, by_place, outputs_until}
use Rattle.image_state.proofs.outputs.outputs_told.Given as goal

abbrev pub invariant-loop-t : goal.invariant-loop-t
invariant-loop-t l = l.outputs.items ≡ outputs_until (by_place l.plan.accepted l.words) l.t
