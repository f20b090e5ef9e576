use Rattle.std.proofs.Common.{ℕ, ◌<◌, sym, ◌∙◌, length, arith}
use Rattle.prog_check.specs.Lookup.{task_def}
use Rattle.ink_plan.specs.Plans.{is_task_plan, plan_of}
use Rattle.ink_plan.proofs.Below.{below_not}
use Rattle.ink_plan.proofs.Reading.{task_read, plan_read}
use Rattle.ink_plan.proofs.checking.are_planned.Goals as goal

pub returns-then-not-is_planned : goal.returns-then-not-is_planned
returns-then-not-is_planned c =
    let inside : c.loop-x.x < length c.args.program.now.tasks = omega arith in
    let planned : c.loop-x.x < length c.args.plan.now.tasks = omega arith in
    let task = task_read c.args.program.now c.as_slice.result.now c.loop-x.x c.index-as_slice-x.result c.as_slice.ensures inside c.index-as_slice-x.is in
    let plan = plan_read c.args.plan.now c.as_slice-in-loop-x.result.now c.loop-x.x c.index-as_slice-x-in-loop-x.result c.as_slice-in-loop-x.ensures planned c.index-as_slice-x-in-loop-x.is in
    sym (below_not (λ (x : ℕ). is_task_plan c.args.program.now (task_def c.args.program.now x) (plan_of c.args.plan.now x)) c.loop-x.x (length c.args.program.now.tasks) c.loop-x.invariant
    (sym (c.if-not-is_planned.ensures ∙ (λ i. is_task_plan c.args.program.now (task i) (plan i)))) inside)
