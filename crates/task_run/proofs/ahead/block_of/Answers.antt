-- The addresses are the board's, which are few.
use Rattle.task_run.proofs.Common.{arith}
use Rattle.fram_words.specs.Places as places
use Rattle.ink_layout.proofs.Below.{address_below}
use Rattle.task_run.proofs.ahead.block_of.Goals as goal

pub overflow_add-first : goal.overflow_add-first
overflow_add-first c =
    let below = address_below c.args.plan.now.accepted c.args.plan.now.layout (places.Page c.args.thread.0 0 0 0) c.program-program.ensures.accepted c.program-program.ensures.layout c.requires in
    omega (arith, below, c.address-first.ensures)
