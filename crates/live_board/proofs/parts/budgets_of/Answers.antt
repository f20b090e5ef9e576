use Rattle.std.proofs.Common.{arith}
use Rattle.kernel_core.proofs.CoreJobs.{charge_is, turns_small}
use Rattle.live_board.proofs.parts.budgets_of.Goals as goal

pub turns_for-requires : goal.turns_for-requires
turns_for-requires c =
    let few = turns_small c.args.charges.now c.loop-charge.charge-index c.requires c.loop-charge-test.true in
    let same = charge_is c.args.charges.now c.loop-charge.charge-index c.charge-item.result c.loop-charge-test.true c.charge-item.is in omega (arith, few, same)
