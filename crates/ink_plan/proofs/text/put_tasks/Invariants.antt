use Rattle.std.proofs.Common.{◌≡◌, ◌++◌}
use Rattle.ink_plan.specs.Text.{task_lines}
use Rattle.ink_plan.proofs.text.put_tasks.Given as goal

abbrev pub invariant-loop-x : goal.invariant-loop-x
invariant-loop-x l = l.out.items ≡ l.initial.out.items ++ task_lines l.program l.plan l.x
