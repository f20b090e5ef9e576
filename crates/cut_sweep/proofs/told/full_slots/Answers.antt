use Rattle.std.proofs.Common.{◌+◌, ap, ◌∙◌, arith}
use Rattle.fram_words.specs.Places.{Memory}
use Rattle.fram_words.specs.Shape.{memory_of}
use Rattle.push_core.specs.Slots.{slot_in}
use Rattle.ink_layout.specs.Shape.{shape_of}
use Rattle.cut_sweep.specs.kept.Told.{is_full}
use Rattle.cut_sweep.proofs.Counts.{one_slot, slots_few}
use Rattle.cut_sweep.proofs.told.full_slots.Goals as goal

pub overflow_add-full : goal.overflow_add-full
overflow_add-full c =
    let words : Memory = memory_of (shape_of c.args.plan.now.accepted) c.args.words.now in
    let more = one_slot words c.args.thread.0 c.loop-index.index c.loop-index.full c.is_full.result c.loop-index.invariant
    (c.is_full.ensures ∙ ap (λ word. is_full (slot_in word)) c.word_at.ensures) in
    let few = slots_few words c.args.thread.0 (c.loop-index.index + 1) in
    let places = c.type_inv.places in
    let lt = c.loop-index-test.true in omega (arith, more, few, places, lt)

pub loop-index-preserved : goal.loop-index-preserved
loop-index-preserved c =
    one_slot (memory_of (shape_of c.args.plan.now.accepted) c.args.words.now) c.args.thread.0 c.loop-index.index c.loop-index.full c.is_full.result c.loop-index.invariant
    (c.is_full.ensures ∙ ap (λ word. is_full (slot_in word)) c.word_at.ensures)
