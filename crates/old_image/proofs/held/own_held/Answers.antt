use Rattle.old_image.proofs.Common.{length, take_all, ap, ◌∙◌, arith, Memory, old_held_for, own_old}
use Rattle.image_checks.specs.Board.{board}
use Rattle.old_image.proofs.held.own_held.Goals as goal

pub returns : goal.returns
returns c =
    let words : Memory = board c.args.plan.now.accepted c.args.words.now in
    let all = c.count_for.ensures.number in
    c.own_before.ensures.own ∙ ap (own_old c.args.source.0) (take_all c.count_for.result (old_held_for c.args.plan.now.accepted words c.args.source.0) (omega arith))
