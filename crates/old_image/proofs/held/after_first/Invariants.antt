use Rattle.old_image.proofs.Common.{◌≡◌, take, after_held, old_held_for}
use Rattle.image_checks.specs.Board.{board}
use Rattle.old_image.proofs.held.after_first.Given as goal

abbrev pub invariant-loop-k : goal.invariant-loop-k
invariant-loop-k l = l.after ≡ after_held l.source.0 (take l.k (old_held_for l.plan.accepted (board l.plan.accepted l.words) l.source.0))
