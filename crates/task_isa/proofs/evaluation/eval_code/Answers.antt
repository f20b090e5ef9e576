use Rattle.task_isa.proofs.Common.{◌≡◌, suc, ◌-◌, ◌∙◌, arith}
use Rattle.std.proofs.lemmas.Result.{IfOk-weaker}
use Rattle.task_isa.proofs.Runs.{has_trapped, has_no_more}
use Rattle.task_isa.proofs.evaluation.eval_code.Goals as goal

pub returns-in-HasTrapped : goal.returns-in-HasTrapped
returns-in-HasTrapped c =
    let count : c.loop-left.left ≡ suc (c.loop-left.left - 1) = omega arith in
    IfOk-weaker c.trapped.result _ _
    (λ end is. is ∙ has_trapped c.args.code.now c.args.limit c.loop-left.left (c.loop-left.left - 1) c.args.start.now c.loop-left.run c.step.new.self c.in-HasTrapped.trap
    c.loop-left.invariant count (rw c.in-HasTrapped.is at c.in_ok-step.ensures))
    c.trapped.ensures

pub returns : goal.returns
returns c =
    IfOk-weaker c.trapped-2.result _ _
    (λ end is. is ∙ has_no_more c.args.code.now c.args.limit c.loop-left.left c.args.start.now c.loop-left.run c.loop-left.invariant c.loop-left-test.false)
    c.trapped-2.ensures
