use Rattle.old_image.proofs.Common.{◌≡◌, take, old_held_for, own_old}
use Rattle.image_checks.specs.Board.{board}
use Rattle.old_image.proofs.held.own_before.Given as goal

abbrev pub invariant-loop-k : goal.invariant-loop-k
invariant-loop-k l = l.own ≡ own_old l.source.0 (take l.k (old_held_for l.plan.accepted (board l.plan.accepted l.words) l.source.0))
