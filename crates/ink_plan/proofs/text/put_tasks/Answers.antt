use Rattle.std.proofs.Common.{◌≡◌, ℕ, ◌<◌, List, length, ◌++◌, ◌∙◌, ap, sym, append_assoc, append-nil, refl, arith}
use Rattle.ink_plan.specs.Text.{task_line, task_lines}
use Rattle.ink_plan.proofs.Lines.{lines_zero, lines_more}
use Rattle.ink_plan.proofs.Reading.{task_read, plan_read}
use Rattle.ink_plan.proofs.text.put_tasks.Goals as goal

pub loop-x-init : goal.loop-x-init
loop-x-init c = rw (lines_zero c.args.program.now c.args.plan.now, append-nil) refl

pub loop-x-preserved : goal.loop-x-preserved
loop-x-preserved c =
    let inside : c.loop-x.x < length c.args.program.now.tasks = omega arith in
    let planned : c.loop-x.x < length c.args.plan.now.tasks = omega arith in
    let task = task_read c.args.program.now c.as_slice.result.now c.loop-x.x c.index-as_slice-x.result c.as_slice.ensures inside c.index-as_slice-x.is in
    let plan = plan_read c.args.plan.now c.as_slice-in-loop-x.result.now c.loop-x.x c.index-as_slice-x-in-loop-x.result c.as_slice-in-loop-x.ensures planned c.index-as_slice-x-in-loop-x.is in
    let put : c.put_task.new.out.items ≡ c.loop-x.out.items ++ task_line c.index-as_slice-x.result c.index-as_slice-x-in-loop-x.result = c.in_ok-put_task.ensures in
    put ∙ (λ i. c.loop-x.invariant i ++ task_line (task i) (plan i))
    ∙ append_assoc c.args.out.now.items (task_lines c.args.program.now c.args.plan.now c.loop-x.x) _
    ∙ ap (λ (l : List ℕ). c.args.out.now.items ++ l) (sym (lines_more c.args.program.now c.args.plan.now c.loop-x.x))
