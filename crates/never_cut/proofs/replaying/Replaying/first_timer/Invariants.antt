use Rattle.never_cut.proofs.Common.{◌≡◌, ◌-◌, length, first_number, has_due, model_of}
use Rattle.never_cut.proofs.replaying.Replaying.first_timer.Given as goal

-- no timer below `j` will do
abbrev pub invariant-loop-j : goal.invariant-loop-j
invariant-loop-j l =
    first_number (has_due l.program (model_of l.self) l.t l.time) 0 (length l.program.timers)
    ≡ first_number (has_due l.program (model_of l.self) l.t l.time) l.j (length l.program.timers - l.j)
