use Rattle.old_image.proofs.Common.{arith, Memory}
use Rattle.image_checks.specs.Board.{board}
use Rattle.old_image.specs.Worn.{LateClock}
use Rattle.old_image.proofs.Unworn.{surely, by_pipes}
use Rattle.old_image.proofs.worn.is_worn_old.Goals as goal

pub returns-then-word_at-ge-HALF_CLOCK : goal.returns-then-word_at-ge-HALF_CLOCK
returns-then-word_at-ge-HALF_CLOCK c = surely (LateClock (omega (arith, c.word_at.ensures, c.if-word_at-ge-HALF_CLOCK.true)))

pub returns-then-has_worn_source : goal.returns-then-has_worn_source
returns-then-has_worn_source c = surely c.if-has_worn_source.ensures

pub returns-then-has_worn_thread : goal.returns-then-has_worn_thread
returns-then-has_worn_thread c = surely c.if-has_worn_thread.ensures

pub returns : goal.returns
returns c =
    by_pipes c.args.plan.now.accepted c.args.listed.now (board c.args.plan.now.accepted c.args.words.now) c.has_worn_pipe.result
    (omega (arith, c.word_at.ensures, c.if-word_at-ge-HALF_CLOCK.false)) c.if-has_worn_source.ensures c.if-has_worn_thread.ensures c.has_worn_pipe.ensures
