use Rattle.old_image.proofs.Common.{arith, Memory}
use Rattle.image_checks.specs.Board.{board}
use Rattle.fram_words.specs.Header as header
use Rattle.old_image.specs.Worn.{ManyCommits, ManyServices}
use Rattle.old_image.proofs.Unworn.{queue_worn}
use Rattle.old_image.proofs.worn.is_worn_thread.Goals as goal

pub returns-then-stamp-ge-HALF_COUNT : goal.returns-then-stamp-ge-HALF_COUNT
returns-then-stamp-ge-HALF_COUNT c = ManyCommits c.args.thread.0 c.requires.known (omega (arith, c.header_word-stamp.ensures, c.if-stamp-ge-HALF_COUNT.true))

pub returns-then-served-ge-HALF_COUNT : goal.returns-then-served-ge-HALF_COUNT
returns-then-served-ge-HALF_COUNT c =
    ManyServices c.args.thread.0 header.served c.requires.known (omega arith) (omega arith) (omega (arith, c.header_word-served.ensures, c.if-served-ge-HALF_COUNT.true))

pub returns-then-trapped-ge-HALF_COUNT : goal.returns-then-trapped-ge-HALF_COUNT
returns-then-trapped-ge-HALF_COUNT c =
    ManyServices c.args.thread.0 header.trapped c.requires.known (omega arith) (omega arith) (omega (arith, c.header_word-trapped.ensures, c.if-trapped-ge-HALF_COUNT.true))

pub returns-then-expired-ge-HALF_COUNT : goal.returns-then-expired-ge-HALF_COUNT
returns-then-expired-ge-HALF_COUNT c =
    ManyServices c.args.thread.0 header.expired c.requires.known (omega arith) (omega arith) (omega (arith, c.header_word-expired.ensures, c.if-expired-ge-HALF_COUNT.true))

pub returns : goal.returns
returns c =
    queue_worn c.args.plan.now.accepted c.args.listed.now (board c.args.plan.now.accepted c.args.words.now) c.args.thread.0 c.requires.known
    (omega (arith, c.header_word-stamp.ensures, c.if-stamp-ge-HALF_COUNT.false)) (omega (arith, c.header_word-served.ensures, c.if-served-ge-HALF_COUNT.false))
    (omega (arith, c.header_word-trapped.ensures, c.if-trapped-ge-HALF_COUNT.false)) (omega (arith, c.header_word-expired.ensures, c.if-expired-ge-HALF_COUNT.false))
    c.is_worn_queue.ensures
