use Rattle.image_state.proofs.Common.{ap, ◌∙◌, arith, by_place}
use Rattle.image_state.proofs.devices.item_told.Goals as goal

pub overflow_cast-result : goal.overflow_cast-result
overflow_cast-result c =
    let program = c.args.plan.now.accepted in
    let small = (c.requires.image.image.pipes c.args.pipe.0 c.requires.known).items c.args.number c.requires.left c.requires.there in
    let is = c.word_at.ensures ∙ ap (by_place program c.args.words.now) c.ring_place.ensures.place in
    omega (arith, small, is)
