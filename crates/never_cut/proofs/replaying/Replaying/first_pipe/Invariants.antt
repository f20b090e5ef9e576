use Rattle.never_cut.proofs.Common.{◌≡◌, ◌-◌, length, first_number, has_item, model_of}
use Rattle.never_cut.proofs.replaying.Replaying.first_pipe.Given as goal

-- no pipe below `q` will do
abbrev pub invariant-loop-q : goal.invariant-loop-q
invariant-loop-q l =
    first_number (has_item l.program (model_of l.self) l.t) 0 (length l.program.pipes)
    ≡ first_number (has_item l.program (model_of l.self) l.t) l.q (length l.program.pipes - l.q)
