-- The outputs fit the log, which is short.
use Rattle.image_state.proofs.Common.{refl, arith}
use Rattle.fram_words.specs.Header as header
use Rattle.image_state.proofs.outputs.count_told.Goals as goal

pub overflow_cast-result : goal.overflow_cast-result
overflow_cast-result c =
    let fits = (c.requires.image.image.blocks c.args.thread.0 header.outputs c.requires.known (omega arith)).outputs refl in
    let short = (c.program-program.ensures.accepted.threads c.args.thread.0 c.requires.known).log in
    let is = c.header_word.ensures in
    omega (arith, fits, short, is)

pub returns-clause-fits : goal.returns-clause-fits
returns-clause-fits c =
    let fits = (c.requires.image.image.blocks c.args.thread.0 header.outputs c.requires.known (omega arith)).outputs refl in
    let is = c.header_word.ensures in
    omega (arith, fits, is)
