use Rattle.priority_sched.proofs.Common.{◌≡◌, ◌-◌, length, first_number, is_owner}
use Rattle.priority_sched.proofs.pipes.next_timer.Given as goal

-- none below `j` will do
abbrev pub invariant-loop-j : goal.invariant-loop-j
invariant-loop-j l =
    first_number (is_owner l.program l.thread.0) l.from (length l.program.timers - l.from)
    ≡ first_number (is_owner l.program l.thread.0) l.j (length l.program.timers - l.j)
