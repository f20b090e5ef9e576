use Rattle.old_image.proofs.Common.{ℕ, ◌<◌}
use Rattle.image_checks.specs.Board.{board}
use Rattle.old_image.specs.kept.Unworn.{IsUnwornPipe}
use Rattle.old_image.proofs.worn.has_worn_pipe.Given as goal

abbrev pub invariant-loop-q : goal.invariant-loop-q
invariant-loop-q l = (q : ℕ) → q < l.q → IsUnwornPipe l.plan.accepted (board l.plan.accepted l.words) q
