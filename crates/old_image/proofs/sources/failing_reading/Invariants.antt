use Rattle.image_checks.specs.Board.{board}
use Rattle.image_checks.specs.Failing.{HoldsBelow}
use Rattle.old_image.specs.Image.{IsRisingReading}
use Rattle.old_image.proofs.sources.failing_reading.Given as goal

abbrev pub invariant-loop-place : goal.invariant-loop-place
invariant-loop-place l = HoldsBelow (IsRisingReading l.plan.accepted (board l.plan.accepted l.words) l.source.0) l.place
