use Rattle.image_checks.specs.Board.{board}
use Rattle.old_image.proofs.Renewals.{renewed_image, stays_fresh}
use Rattle.old_image.proofs.renewing.renew_copy.Goals as goal

pub returns-clause-image : goal.returns-clause-image
returns-clause-image c =
    renewed_image c.args.plan.now.accepted (board c.args.plan.now.accepted c.args.words.now) (board c.args.plan.now.accepted c.renew_all.new.new) c.renew_all.ensures
    c.program-program.ensures.accepted c.requires.image

pub returns-clause-fresh : goal.returns-clause-fresh
returns-clause-fresh c =
    stays_fresh c.args.plan.now.accepted (board c.args.plan.now.accepted c.args.words.now) (board c.args.plan.now.accepted c.renew_all.new.new) c.renew_all.ensures
    c.program-program.ensures.accepted c.requires.image
