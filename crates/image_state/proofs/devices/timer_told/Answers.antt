use Rattle.image_state.proofs.Common.{refl, arith}
use Rattle.fram_words.specs.Header as header
use Rattle.image_state.proofs.devices.timer_told.Goals as goal

pub overflow_cast-result : goal.overflow_cast-result
overflow_cast-result c =
    let few = c.program-program.ensures.accepted.counts.timers in
    let known = c.requires.known in
    let small = (c.requires.image.image.blocks c.owner-thread.result.0 (header.period c.args.timer.0) c.owner-thread.ensures.known (omega (arith, few, known))).period
    c.args.timer.0 (omega (arith, few, known)) refl in
    let is = c.header_word-period.ensures in
    omega (arith, small, is)
