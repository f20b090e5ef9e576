use Rattle.old_image.proofs.Common.{arith}
use Rattle.image_checks.specs.Board.{board}
use Rattle.old_image.proofs.NewWords.{position_small}
use Rattle.old_image.proofs.renewing.position_behind.Goals as goal

pub overflow_add-result : goal.overflow_add-result
overflow_add-result c =
    let small = position_small c.args.plan.now.accepted (board c.args.plan.now.accepted c.args.words.now) c.args.thread.0 c.args.place c.requires.image c.requires.known c.requires.inside in
    omega (arith, small, c.old_released-first.ensures)

pub overflow_cast-result-2 : goal.overflow_cast-result-2
overflow_cast-result-2 c =
    let small = position_small c.args.plan.now.accepted (board c.args.plan.now.accepted c.args.words.now) c.args.thread.0 c.args.place c.requires.image c.requires.known c.requires.inside in
    omega (arith, small, c.old_released-first.ensures)

pub returns-clause-fits : goal.returns-clause-fits
returns-clause-fits c =
    let small = position_small c.args.plan.now.accepted (board c.args.plan.now.accepted c.args.words.now) c.args.thread.0 c.args.place c.requires.image c.requires.known c.requires.inside in
    omega (arith, small, c.old_released-first.ensures)
