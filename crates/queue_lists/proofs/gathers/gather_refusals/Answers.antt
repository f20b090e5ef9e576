use Rattle.std.proofs.Common.{length, ap, arith}
use Rattle.queue_lists.proofs.Gathering.{refusals_fit}
use Rattle.queue_lists.proofs.gathers.gather_refusals.Goals as goal

pub put_refusals-requires : goal.put_refusals-requires
put_refusals-requires c =
    let fits = refusals_fit c.args.lists.now c.loop-source.source c.loop-source-test.true in
    omega (arith, fits, ap length c.refused_by.ensures, ap length c.loop-source.invariant.listed, c.loop-source.invariant.room, c.requires.room)
