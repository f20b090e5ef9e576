use Rattle.image_state.proofs.Common.{arith, by_place}
use Rattle.image_state.proofs.ThreadWords.{next_small}
use Rattle.image_state.proofs.threads.running_told.Goals as goal

pub read_next-requires : goal.read_next-requires
read_next-requires c =
    let program = c.args.plan.now.accepted in
    let few = next_small program (by_place program c.args.words.now) c.program-program.ensures.accepted c.requires.image.image c.args.thread.0 c.requires.known in
    let is = c.header_word.ensures in
    omega (arith, few, is)
