use Rattle.old_image.proofs.Common.{◌≡◌, length, take_all, ap, ◌∙◌, arith, Memory, after_held, old_held_for}
use Rattle.image_checks.specs.Board.{board}
use Rattle.old_image.proofs.held.old_next.Goals as goal

pub returns : goal.returns
returns c =
    let words : Memory = board c.args.plan.now.accepted c.args.words.now in
    let all = c.count_for.ensures.number in
    let held : c.after_first-held.result ≡ after_held c.args.source.0 (old_held_for c.args.plan.now.accepted words c.args.source.0) =
    c.after_first-held.ensures ∙ ap (after_held c.args.source.0) (take_all c.count_for.result (old_held_for c.args.plan.now.accepted words c.args.source.0) (omega arith)) in
    omega (arith, held)
