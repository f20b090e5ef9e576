use Rattle.std.proofs.Common.{ℕ, ◌<◌, below_more, arith}
use Rattle.fram_words.specs.Places.{Memory}
use Rattle.never_cut.specs.Image.{stamp_at}
use Rattle.image_checks.specs.Board.{board}
use Rattle.image_checks.proofs.LogWords.{apart_between, lower_behind, past_all}
use Rattle.image_checks.proofs.logs.apart_until.Goals as goal
use Rattle.image_checks.proofs.logs.apart_until.Goals.{else-from-count-via-then-from-count+else-stamp-sought, else-from-count-via-else-from-count}

pub loop-n-preserved : goal.loop-n-preserved
loop-n-preserved c =
    let words : Memory = board c.args.plan.now.accepted c.args.words.now in
    let next : ℕ = c.past_lower-from.result in
    let all = c.outputs-count.ensures in
    let sought = c.stamp-sought.ensures in
    let lower = past_all words c.args.other.0 c.args.thread.0 c.loop-n.n c.args.end c.loop-n.from c.outputs-count.result c.stamp-sought.result next sought c.loop-n-test.true
    c.loop-n.invariant.lower c.past_lower-from.ensures in
    let higher : next < c.outputs-count.result → stamp_at words c.args.thread.0 c.loop-n.n < stamp_at words c.args.other.0 next = λ lt. elim c.else-from-count.branch [
      | else-from-count-via-then-from-count+else-stamp-sought w ↦
          let stops = c.past_lower-from.ensures.stops lt in let there = w.stamp.ensures in let other = w.if-stamp-sought.false in omega arith
      | else-from-count-via-else-from-count w ↦ let past = w.if-from-count.false in omega arith
    ] in
    record {
      within = c.past_lower-from.ensures.within;
      apart = below_more _ _ c.loop-n.invariant.apart
          (apart_between words c.args.other.0 c.args.thread.0 c.loop-n.n next c.requires.other_rising lower (λ lt. higher (omega arith)));
      lower = lower_behind words c.args.other.0 c.args.thread.0 c.loop-n.n next c.args.end c.requires.rising c.loop-n-test.true lower;
    }
