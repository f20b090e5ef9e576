use Rattle.image_checks.specs.Board.{board}
use Rattle.image_checks.proofs.LogWords.{end_more}
use Rattle.image_checks.proofs.logs.apart_from_earlier.Goals as goal

pub loop-u-preserved : goal.loop-u-preserved
loop-u-preserved c =
    end_more (board c.args.plan.now.accepted c.args.words.now) c.loop-u.u c.args.thread.0 c.args.end c.loop-u.until c.apart_until-until.result c.loop-u.invariant
    c.apart_until-until.ensures
