-- The code of an accepted program can be run.
use Rattle.never_cut.proofs.Common.{ℕ, ◌<◌, length, arith, get_or-le-sum_by, Instr, Send, Arm, Stop, Next, Program, Task, task_def, instr_at, no_task_def, HasCounts, IsAccepted, IsRightInstr}
use Rattle.task_isa.specs.Runnable.{HasFittingId, IsRunnable}

fits : (program : Program) (task : Task) (instr : Instr) → HasCounts program → IsRightInstr program task instr → HasFittingId instr
fits program task (Send i a b) counts right = let known = right.0 in let few = counts.pipes in omega arith
fits program task (Arm i a b) counts right = let known = right.0 in let few = counts.timers in omega arith
fits program task (Stop i) counts right = let known = right.0 in let few = counts.timers in omega arith
fits program task (Next i) counts right = let known = right.0 in let few = counts.tasks in omega arith
fits program task _ counts right = tt

pub is_runnable : (program : Program) (x : ℕ) → IsAccepted program → x < length program.tasks → IsRunnable (task_def program x).code
is_runnable program x accepted known =
    let one = get_or-le-sum_by (λ (task : Task). length task.code) program.tasks x no_task_def known in
    let all = accepted.counts.code in
    record {
      counted = omega (arith, one, all);
      fitting = λ n within. fits program (task_def program x) (instr_at (task_def program x) n) accepted.counts ((accepted.tasks x known).instrs n within);
    }
