use Rattle.prog_check.proofs.Common.{◌≡◌, length, None, first_below, timer_fault}
use Rattle.prog_check.proofs.devices.judge_timers.Given as goal

abbrev pub invariant-loop-j : goal.invariant-loop-j
invariant-loop-j l = (l.count ≡ length l.program.timers) × (first_below (timer_fault l.program l.lines) l.j ≡ None)
