use Rattle.std.proofs.Common.{below_more, arith}
use Rattle.fram_words.specs.Places.{Memory}
use Rattle.image_checks.specs.Board.{board}
use Rattle.image_checks.proofs.Tests.{granted}
use Rattle.old_image.proofs.QueueSlots.{free_right, held_right, next_fits}
use Rattle.old_image.proofs.queues.failing_slot.Goals as goal

pub loop-k-init : goal.loop-k-init
loop-k-init c =
    let words : Memory = board c.args.plan.now.accepted c.args.words.now in
    let all = c.old_held_count-k.ensures.number in λ n lt. held_right c.args.plan.now.accepted words c.args.thread.0 n (omega arith)

pub overflow_add-position : goal.overflow_add-position
overflow_add-position c =
    let words : Memory = board c.args.plan.now.accepted c.args.words.now in
    let held = c.old_held_count-k.ensures.number in
    let from = c.loop-k.auto.k in
    let fits = next_fits c.args.plan.now.accepted words c.args.thread.0 c.old_released-first.result c.loop-k.k c.old_released-first.ensures (omega arith) (omega arith) c.loop-k.invariant in
    omega arith

pub loop-k-preserved : goal.loop-k-preserved
loop-k-preserved c =
    let words : Memory = board c.args.plan.now.accepted c.args.words.now in
    below_more _ _ c.loop-k.invariant
    (free_right c.args.plan.now.accepted words c.args.thread.0 c.old_released-first.result c.loop-k.k c.old_released-first.ensures (granted c.if-not-is_free.ensures))

pub returns : goal.returns
returns c =
    let places = c.places-places.ensures.places in λ n lt. c.loop-k.invariant n (omega arith)
