use Rattle.prog_check.proofs.Common.{◌≡◌, length, None, first_below, served_fault}
use Rattle.prog_check.proofs.meaning.judge_all_served.Given as goal

abbrev pub invariant-loop-t : goal.invariant-loop-t
invariant-loop-t l = (l.count ≡ length l.program.threads) × (first_below (served_fault l.program l.lines) l.t ≡ None)
