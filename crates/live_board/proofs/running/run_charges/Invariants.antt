use Rattle.live_board.specs.kept.Boards.{IsBoardAfter}
use Rattle.live_board.proofs.running.run_charges.Given as goal

abbrev pub invariant-loop-n : goal.invariant-loop-n
invariant-loop-n g l = IsBoardAfter l.job l.set l.n l.sources l.kernel l.clock
