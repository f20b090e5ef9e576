use Rattle.image_state.proofs.Common.{arith}
use Rattle.fram_words.specs.Header as header
use Rattle.image_state.proofs.threads.number_told.Goals as goal

pub overflow_cast-result : goal.overflow_cast-result
overflow_cast-result c =
    let small = (c.requires.image.image.blocks c.args.thread.0 (header.state c.args.index) c.requires.known (let within = c.requires.within in omega arith)).state (omega arith) in
    let is = c.committed_word.ensures in
    omega (arith, small, is)
