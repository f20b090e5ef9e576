use Rattle.std.proofs.Common.{◌≡◌, ◌<◌, length, ◌++◌, ◌∙◌, sym, arith}
use Rattle.ink_plan.specs.Text.{path_line}
use Rattle.ink_plan.proofs.Lines.{paths_zero, paths_more}
use Rattle.ink_plan.proofs.Reading.{task_read, plan_read}
use Rattle.ink_plan.proofs.text.paths_text.Goals as goal

pub loop-x-init : goal.loop-x-init
loop-x-init c = let none = paths_zero c.args.program.now c.args.plan.now in cc

pub loop-x-preserved : goal.loop-x-preserved
loop-x-preserved c =
    let inside : c.loop-x.x < length c.args.program.now.tasks = omega arith in
    let planned : c.loop-x.x < length c.args.plan.now.tasks = omega arith in
    let task = task_read c.args.program.now c.as_slice.result.now c.loop-x.x c.index-as_slice-x.result c.as_slice.ensures inside c.index-as_slice-x.is in
    let plan = plan_read c.args.plan.now c.as_slice-in-loop-x.result.now c.loop-x.x c.index-as_slice-x-in-loop-x.result c.as_slice-in-loop-x.ensures planned c.index-as_slice-x-in-loop-x.is in
    let put : c.put_path.new.out.items ≡ c.loop-x.out.items ++ path_line c.index-as_slice-x.result c.index-as_slice-x-in-loop-x.result = c.in_ok-put_path.ensures in
    put ∙ (λ i. c.loop-x.invariant i ++ path_line (task i) (plan i)) ∙ sym (paths_more c.args.program.now c.args.plan.now c.loop-x.x)
