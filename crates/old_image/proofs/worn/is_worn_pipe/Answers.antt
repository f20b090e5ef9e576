use Rattle.image_checks.specs.Board.{board}
use Rattle.old_image.proofs.Unworn.{pipe_over, pipe_worn}
use Rattle.old_image.proofs.worn.is_worn_pipe.Goals as goal

pub returns-then-written-ge-HALF_COUNT : goal.returns-then-written-ge-HALF_COUNT
returns-then-written-ge-HALF_COUNT c =
    pipe_over c.args.plan.now.accepted (board c.args.plan.now.accepted c.args.words.now) c.args.pipe.0 c.written.result c.requires.known c.written.ensures
    c.if-written-ge-HALF_COUNT.true

pub returns-else-written-ge-HALF_COUNT : goal.returns-else-written-ge-HALF_COUNT
returns-else-written-ge-HALF_COUNT c =
    pipe_worn c.args.plan.now.accepted (board c.args.plan.now.accepted c.args.words.now) c.args.pipe.0 c.written.result c.taken.result c.requires.known c.written.ensures
    c.taken.ensures c.if-written-ge-HALF_COUNT.false
