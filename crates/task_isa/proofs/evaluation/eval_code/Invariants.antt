use Rattle.task_isa.proofs.Runs.{StandsFor}
use Rattle.task_isa.proofs.evaluation.eval_code.Given as goal

abbrev pub invariant-loop-left : goal.invariant-loop-left
invariant-loop-left l = StandsFor l.code l.limit l.left l.start l.run

abbrev pub decreases-loop-left : goal.decreases-loop-left
decreases-loop-left l = l.left
