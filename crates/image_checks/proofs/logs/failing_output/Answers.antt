use Rattle.image_checks.specs.Board.{board}
use Rattle.image_checks.proofs.LogWords.{rising}
use Rattle.image_checks.proofs.logs.failing_output.Goals as goal

pub apart_from_earlier-end-requires-clause-rising : goal.apart_from_earlier-end-requires-clause-rising
apart_from_earlier-end-requires-clause-rising c =
    rising (board c.args.plan.now.accepted c.args.words.now) c.args.thread.0 c.ordered_until-ordered.result c.ordered_until-ordered.ensures.before
