use Rattle.prog_check.proofs.Common.{◌≡◌, length, None, first_below, pipe_fault}
use Rattle.prog_check.proofs.devices.judge_pipes.Given as goal

abbrev pub invariant-loop-q : goal.invariant-loop-q
invariant-loop-q l = (l.count ≡ length l.program.pipes) × (first_below (pipe_fault l.program l.lines) l.q ≡ None)
