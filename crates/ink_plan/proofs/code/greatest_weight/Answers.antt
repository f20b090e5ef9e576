use Rattle.std.proofs.Common.{◌∙◌, sym, arith}
use Rattle.std.specs.Prelude.{max}
use Rattle.ink_plan.proofs.Greatest.{max_is, weight_more}
use Rattle.ink_plan.proofs.code.greatest_weight.Goals as goal

pub loop-instr-preserved : goal.loop-instr-preserved
loop-instr-preserved c =
    let now = max_is c.loop-instr.greatest c.weight.result in
    let more = weight_more c.args.code.now c.loop-instr.instr-index c.instr-item.result c.loop-instr-test.true c.instr-item.is in
    let before = c.loop-instr.invariant.same in
    let weighs = c.weight.ensures.same in
    let most = c.loop-instr.invariant.few in
    let few = c.weight.ensures.few in
    let is = c.max-greatest.ensures in
    record { same = is ∙ now ∙ (λ i. max (before i) (weighs i)) ∙ sym more; few = omega arith }
