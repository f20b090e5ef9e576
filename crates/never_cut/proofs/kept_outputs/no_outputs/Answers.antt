use Rattle.never_cut.proofs.Common.{get_or-replicate}
use Rattle.never_cut.proofs.kept_outputs.no_outputs.Goals as goal

pub invariant_of-result : goal.invariant_of-result
invariant_of-result c = record { counted = λ t within. rw c.new.ensures.items (get_or-replicate 256 t 0 0 within) }
