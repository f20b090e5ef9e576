use Rattle.std.proofs.Common.{◌≡◌, List, length, get_or, sym, ap, ◌∙◌, arith}
use Rattle.ink_base.proofs.Each.{Goes-none, Goes-more, Goes-fails, Goes-all}
use Rattle.task_lines.specs.declared.draft.DraftTask.{DraftTask}
use Rattle.task_asm.specs.Targets.{task_of}
use Rattle.task_asm.proofs.targets.tasks_of.Goals as goal

pub loop-task-init : goal.loop-task-init
loop-task-init c = rw c.new-made.ensures (Goes-none (task_of c.args.tasks.now) c.args.tasks.now)

pub returns-in-Err : goal.returns-in-Err
returns-in-Err c =
    let all : c.as_slice-task-items.result.now ≡ c.args.tasks.now = c.as_slice-task-items.ensures.items in
    let at : get_or c.args.tasks.now c.loop-task.task-index c.task-item.result ≡ c.task-item.result =
    ap (λ (ts : List DraftTask). get_or ts c.loop-task.task-index c.task-item.result) (sym all) ∙ sym c.task-item.is in
    Goes-fails (task_of c.args.tasks.now) c.loop-task.made c.args.tasks.now c.loop-task.task-index _ c.in-Err.e c.task-item.result (omega (arith, ap (λ (ts : List DraftTask). length ts) all))
    (rw at c.in-Err.ensures) c.loop-task.invariant

pub loop-task-preserved : goal.loop-task-preserved
loop-task-preserved c =
    let all : c.as_slice-task-items.result.now ≡ c.args.tasks.now = c.as_slice-task-items.ensures.items in
    let at : get_or c.args.tasks.now c.loop-task.task-index c.task-item.result ≡ c.task-item.result =
    ap (λ (ts : List DraftTask). get_or ts c.loop-task.task-index c.task-item.result) (sym all) ∙ sym c.task-item.is in
    rw c.in_ok-push-in-Ok.ensures.ok
    (Goes-more (task_of c.args.tasks.now) c.loop-task.made c.args.tasks.now c.loop-task.task-index _ c.in-Ok.task c.task-item.result (omega (arith, ap (λ (ts : List DraftTask). length ts) all))
    (rw at c.in-Ok.ensures) c.loop-task.invariant)

pub returns : goal.returns
returns c =
    let all : c.as_slice-task-items.result.now ≡ c.args.tasks.now = c.as_slice-task-items.ensures.items in
    Goes-all (task_of c.args.tasks.now) c.loop-task.made c.args.tasks.now c.loop-task.task-index _ (omega (arith, ap (λ (ts : List DraftTask). length ts) all)) c.loop-task.invariant
