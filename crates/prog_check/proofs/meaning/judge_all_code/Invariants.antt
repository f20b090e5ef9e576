use Rattle.prog_check.proofs.Common.{◌≡◌, length, None, first_below, code_fault}
use Rattle.prog_check.proofs.meaning.judge_all_code.Given as goal

abbrev pub invariant-loop-x : goal.invariant-loop-x
invariant-loop-x l = (l.count ≡ length l.program.tasks) × (first_below (code_fault l.program l.lines) l.x ≡ None)
