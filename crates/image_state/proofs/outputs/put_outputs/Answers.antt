use Rattle.image_state.proofs.Common.{by_place, told_output}
use Rattle.image_state.proofs.Each.{each_behind}
use Rattle.image_state.proofs.outputs.put_outputs.Goals as goal

pub loop-index-preserved : goal.loop-index-preserved
loop-index-preserved c =
    rw (c.in_ok-push.ensures.items, c.loop-index.invariant, c.output_told.ensures)
    (each_behind (told_output (by_place c.args.plan.now.accepted c.args.words.now) c.args.thread.0) c.loop-index.index c.args.outputs.now.items)
