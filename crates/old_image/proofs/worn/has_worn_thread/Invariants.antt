use Rattle.old_image.proofs.Common.{ℕ, ◌<◌}
use Rattle.image_checks.specs.Board.{board}
use Rattle.old_image.specs.kept.Unworn.{IsUnwornThread}
use Rattle.old_image.proofs.worn.has_worn_thread.Given as goal

abbrev pub invariant-loop-t : goal.invariant-loop-t
invariant-loop-t l = (t : ℕ) → t < l.t → IsUnwornThread l.plan.accepted l.listed (board l.plan.accepted l.words) t
