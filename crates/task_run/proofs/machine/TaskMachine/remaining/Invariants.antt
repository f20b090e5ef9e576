-- After so many accesses the machine ahead has the registers of the machine alone, and each of them leaves less.
use Rattle.task_run.proofs.Common.{◌≡◌, length}
use Rattle.fram_words.specs.Shape.{memory_of}
use Rattle.ink_layout.specs.Shape.{shape_of}
use Rattle.task_run.specs.kept.Ahead.{GoesAhead}
use Rattle.task_run.specs.kept.LeftMost.{left_most}
use Rattle.task_run.proofs.machine.TaskMachine.remaining.Given as goal

abbrev pub invariant-loop-ahead : goal.invariant-loop-ahead
invariant-loop-ahead l = record {
  goes : GoesAhead l.plan.accepted (memory_of (shape_of l.plan.accepted) l.fram) l.self l.count l.ahead.machine l.ahead.block;
  size : length l.ahead.block ≡ 608;
}

abbrev pub decreases-loop-ahead : goal.decreases-loop-ahead
decreases-loop-ahead l = left_most l.plan.accepted l.ahead.machine
