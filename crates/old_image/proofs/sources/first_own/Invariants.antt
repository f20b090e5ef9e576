use Rattle.old_image.proofs.Common.{old_held_for}
use Rattle.image_checks.specs.Board.{board}
use Rattle.old_image.specs.kept.Parts.{NoneOwn}
use Rattle.old_image.proofs.sources.first_own.Given as goal

abbrev pub invariant-loop-place : goal.invariant-loop-place
invariant-loop-place l = NoneOwn l.source.0 (old_held_for l.plan.accepted (board l.plan.accepted l.words) l.source.0) l.place
