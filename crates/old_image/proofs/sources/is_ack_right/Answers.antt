use Rattle.old_image.proofs.Common.{refl, Memory}
use Rattle.image_checks.specs.Board.{board}
use Rattle.old_image.proofs.Checks.{ack_free, ack_right, ack_asked}
use Rattle.old_image.proofs.sources.is_ack_right.Goals as goal

pub returns-in-Some : goal.returns-in-Some
returns-in-Some c =
    let words : Memory = board c.args.plan.now.accepted c.args.words.now in (
      λ yes. ack_right c.args.plan.now.accepted words c.args.source.0 c.in-Some.place c.in-Some.ensures (c.is_ack_for.ensures.0 yes),
      λ right. c.is_ack_for.ensures.1 (ack_asked c.args.plan.now.accepted words c.args.source.0 c.in-Some.place c.in-Some.ensures right),
    )

pub returns-in-None : goal.returns-in-None
returns-in-None c =
    (λ yes. ack_free c.args.plan.now.accepted (board c.args.plan.now.accepted c.args.words.now) c.args.source.0 c.in-None.ensures, λ right. refl)
