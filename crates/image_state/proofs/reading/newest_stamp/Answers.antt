use Rattle.image_state.proofs.Common.{ap, ◌∙◌, ℕ, by_place}
use Rattle.std.specs.Ordering.{nat_cmp, ord_max}
use Rattle.image_state.proofs.Newest.{newest_more}
use Rattle.image_state.proofs.reading.newest_stamp.Goals as goal

pub loop-t-preserved : goal.loop-t-preserved
loop-t-preserved c =
    newest_more (by_place c.args.plan.now.accepted c.args.words.now) c.loop-t.t c.loop-t.newest c.max-newest.result
    (c.max-newest.ensures ∙ ap (λ (stamp : ℕ). ord_max nat_cmp c.loop-t.newest stamp) c.header_word.ensures) c.loop-t.invariant
