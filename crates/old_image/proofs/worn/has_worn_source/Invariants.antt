use Rattle.old_image.proofs.Common.{ℕ, ◌<◌}
use Rattle.image_checks.specs.Board.{board}
use Rattle.old_image.specs.kept.Unworn.{IsUnwornSource}
use Rattle.old_image.proofs.worn.has_worn_source.Given as goal

abbrev pub invariant-loop-i : goal.invariant-loop-i
invariant-loop-i l = (i : ℕ) → i < l.i → IsUnwornSource l.plan.accepted l.listed (board l.plan.accepted l.words) i
