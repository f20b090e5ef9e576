use Rattle.prog_check.proofs.Common.{◌≡◌, length, None, first_below, source_fault}
use Rattle.prog_check.proofs.threads.judge_sources.Given as goal

abbrev pub invariant-loop-i : goal.invariant-loop-i
invariant-loop-i l = (l.count ≡ length l.program.sources) × (first_below (source_fault l.program l.lines) l.i ≡ None)
