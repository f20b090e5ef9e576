use Rattle.priority_sched.proofs.Common.{◌≡◌, ◌-◌, length, first_number, is_reader}
use Rattle.priority_sched.proofs.pipes.next_pipe.Given as goal

-- none below `q` will do
abbrev pub invariant-loop-q : goal.invariant-loop-q
invariant-loop-q l =
    first_number (is_reader l.program l.thread.0) l.from (length l.program.pipes - l.from)
    ≡ first_number (is_reader l.program l.thread.0) l.q (length l.program.pipes - l.q)
