use Rattle.old_image.proofs.Common.{Memory}
use Rattle.image_checks.specs.Board.{board}
use Rattle.old_image.proofs.Checks.{rises_told}
use Rattle.old_image.proofs.sources.rises.Goals as goal

pub returns : goal.returns
returns c =
    rises_told c.args.plan.now.accepted (board c.args.plan.now.accepted c.args.words.now) c.args.source.0 c.args.place c.event_for.result c.after_first-after.result
    c.requires.held c.event_for.ensures c.after_first-after.ensures c.comes_after.ensures
