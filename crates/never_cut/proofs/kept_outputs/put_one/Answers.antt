use Rattle.never_cut.proofs.Common.{arith}
use Rattle.never_cut.proofs.Counted.{length-outputs_in}
use Rattle.never_cut.proofs.kept_outputs.put_one.Goals as goal

pub overflow_add-outputs : goal.overflow_add-outputs
overflow_add-outputs c =
    let is = c.args.outputs.now.counted c.from.result (omega arith) in
    let few = length-outputs_in c.from.result c.args.outputs.now.list.items in
    let ok = c.args.outputs.now.list.ok in
    let small = c.args.outputs.now.list.small in
    omega (arith, is, few, ok, small)
