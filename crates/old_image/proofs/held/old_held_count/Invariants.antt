use Rattle.std.proofs.Common.{◌≤◌, length}
use Rattle.image_checks.specs.Board.{board}
use Rattle.old_image.specs.Told.{old_held}
use Rattle.old_image.proofs.held.old_held_count.Given as goal

abbrev pub invariant-loop-k : goal.invariant-loop-k
invariant-loop-k l = l.k ≤ length (old_held l.plan.accepted (board l.plan.accepted l.words) l.thread.0)
