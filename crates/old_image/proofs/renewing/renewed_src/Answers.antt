use Rattle.old_image.proofs.Common.{arith}
use Rattle.image_checks.specs.Board.{board}
use Rattle.old_image.proofs.Unworn.{few_settled}
use Rattle.old_image.proofs.renewing.renewed_src.Goals as goal

pub overflow_cast-next : goal.overflow_cast-next
overflow_cast-next c =
    let few = few_settled c.args.plan.now.accepted (board c.args.plan.now.accepted c.args.words.now) c.args.source.0 c.requires.fresh c.requires.known in
    omega (arith, few, c.old_next-next.ensures)
