use Rattle.std.proofs.Common.{arith}
use Rattle.fram_words.specs.Places.{Memory}
use Rattle.fram_words.specs.Shape.{memory_of}
use Rattle.ink_layout.specs.Shape.{shape_of}
use Rattle.image_told.proofs.Walks.{all_known, held_few, one_more, position_fits}
use Rattle.image_told.proofs.events.held_count.Goals as goal

pub overflow_add-first : goal.overflow_add-first
overflow_add-first c =
    let words : Memory = memory_of (shape_of c.args.plan.now.accepted) c.args.words.now in
    let first = c.released-first.ensures in
    let fits = position_fits c.args.plan.now.accepted words c.args.thread.0 c.loop-k.k (omega arith) c.loop-k.invariant in omega (arith, first, fits)

pub returns-then-is_none-clause-number : goal.returns-then-is_none-clause-number
returns-then-is_none-clause-number c =
    let words : Memory = memory_of (shape_of c.args.plan.now.accepted) c.args.words.now in
    all_known c.args.plan.now.accepted words c.args.thread.0 c.released-first.result c.loop-k.k c.event_at.result c.released-first.ensures c.event_at.ensures.event
    c.if-is_none.ensures c.loop-k.invariant

pub loop-k-preserved : goal.loop-k-preserved
loop-k-preserved c =
    let words : Memory = memory_of (shape_of c.args.plan.now.accepted) c.args.words.now in
    let room = c.places-places.ensures.places in
    one_more c.args.plan.now.accepted words c.args.thread.0 c.released-first.result c.loop-k.k c.event_at.result c.released-first.ensures c.event_at.ensures.event
    c.if-is_none.ensures (omega arith) c.loop-k.invariant

pub returns-clause-number : goal.returns-clause-number
returns-clause-number c =
    let words : Memory = memory_of (shape_of c.args.plan.now.accepted) c.args.words.now in
    let few = held_few c.args.plan.now.accepted words c.args.thread.0 in
    let room = c.places-places.ensures.places in
    let all = c.loop-k.invariant in omega arith
