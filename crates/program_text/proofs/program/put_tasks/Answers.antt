use Rattle.program_text.proofs.Common.{◌≡◌, get_or, ◌<◌, length, subst, rules, get_or_read, All-more, no_task_def, task_text, IsTypedTask}
use Rattle.program_text.proofs.Printing.{parts_more}
use Rattle.program_text.proofs.program.put_tasks.Goals as goal

pub loop-task-preserved : goal.loop-task-preserved
loop-task-preserved c =
    let at = c.loop-task.task-index in
    let lt : at < length c.args.tasks.now = search rules in
    let item : c.task-item.result ≡ get_or c.args.tasks.now at no_task_def = get_or_read c.args.tasks.now at c.task-item.result lt c.task-item.is no_task_def in (
      parts_more (task_text c.args.program.now) c.args.tasks.now at no_task_def _ _ _ _ lt item c.in_ok-put_task.ensures.text c.loop-task.invariant.0,
      All-more IsTypedTask c.args.tasks.now at no_task_def lt c.loop-task.invariant.1 (subst IsTypedTask item c.in_ok-put_task.ensures.typed),
    )
