use Rattle.image_checks.specs.Board.{board}
use Rattle.image_checks.specs.Failing.{HoldsBelow}
use Rattle.image_checks.specs.kept.Logs.{IsInOrder, IsLeast}
use Rattle.image_checks.proofs.logs.ordered_until.Given as goal

abbrev pub invariant-loop-n : goal.invariant-loop-n
invariant-loop-n l = record {
  before : HoldsBelow (IsInOrder (board l.plan.accepted l.words) l.thread.0) l.n;
  least : IsLeast (board l.plan.accepted l.words) l.thread.0 l.n l.least;
}
