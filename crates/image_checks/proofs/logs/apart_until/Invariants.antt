use Rattle.std.proofs.Common.{◌≤◌}
use Rattle.image_checks.specs.Board.{board}
use Rattle.image_checks.specs.Failing.{HoldsBelow}
use Rattle.image_checks.specs.kept.Logs.{AreLower, IsApart}
use Rattle.image_checks.proofs.logs.apart_until.Given as goal

abbrev pub invariant-loop-n : goal.invariant-loop-n
invariant-loop-n l = record {
  within : l.from ≤ l.count;
  apart : HoldsBelow (IsApart (board l.plan.accepted l.words) l.other.0 l.thread.0) l.n;
  lower : AreLower (board l.plan.accepted l.words) l.other.0 l.from l.thread.0 l.n l.end;
}
