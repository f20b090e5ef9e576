use Rattle.image_checks.specs.Board.{board}
use Rattle.image_checks.specs.kept.Logs.{IsApartFromFirst, IsEnd}
use Rattle.image_checks.proofs.logs.apart_from_earlier.Given as goal

abbrev pub invariant-loop-u : goal.invariant-loop-u
invariant-loop-u l = IsEnd (IsApartFromFirst (board l.plan.accepted l.words) l.u l.thread.0) l.end l.until
