use Rattle.old_image.proofs.Common.{Memory, arith}
use Rattle.image_checks.specs.Board.{board}
use Rattle.old_image.proofs.OldQueues.{held_few}
use Rattle.old_image.proofs.Walks.{all_known, one_more, position_fits}
use Rattle.old_image.proofs.held.old_held_count.Goals as goal

pub overflow_add-first : goal.overflow_add-first
overflow_add-first c =
    let words : Memory = board c.args.plan.now.accepted c.args.words.now in
    let first = c.old_released-first.ensures in
    let fits = position_fits c.args.plan.now.accepted words c.args.thread.0 c.loop-k.k (omega arith) c.loop-k.invariant in omega (arith, first, fits)

pub returns-then-is_none-clause-number : goal.returns-then-is_none-clause-number
returns-then-is_none-clause-number c =
    let words : Memory = board c.args.plan.now.accepted c.args.words.now in
    all_known c.args.plan.now.accepted words c.args.thread.0 c.old_released-first.result c.loop-k.k c.old_event_at.result c.old_released-first.ensures
    c.old_event_at.ensures.event c.if-is_none.ensures c.loop-k.invariant

pub loop-k-preserved : goal.loop-k-preserved
loop-k-preserved c =
    let words : Memory = board c.args.plan.now.accepted c.args.words.now in
    let room = c.places-places.ensures.places in
    one_more c.args.plan.now.accepted words c.args.thread.0 c.old_released-first.result c.loop-k.k c.old_event_at.result c.old_released-first.ensures
    c.old_event_at.ensures.event c.if-is_none.ensures (omega arith) c.loop-k.invariant

pub returns-clause-number : goal.returns-clause-number
returns-clause-number c =
    let words : Memory = board c.args.plan.now.accepted c.args.words.now in
    let few = held_few c.args.plan.now.accepted words c.args.thread.0 in
    let room = c.places-places.ensures.places in
    let all = c.loop-k.invariant in omega arith
