use Rattle.std.proofs.Common.{ℕ, ◌<◌, ◌≤◌}
use Rattle.never_cut.specs.Image.{stamp_at}
use Rattle.image_checks.specs.Board.{board}
use Rattle.image_checks.proofs.logs.past_lower.Given as goal

abbrev pub invariant-loop-k : goal.invariant-loop-k
invariant-loop-k l = (j : ℕ) → l.from ≤ j → j < l.k → stamp_at (board l.plan.accepted l.words) l.thread.0 j < l.sought
