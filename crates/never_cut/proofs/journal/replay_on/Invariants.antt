use Rattle.never_cut.proofs.Common.{model_of}
use Rattle.never_cut.proofs.Replays.{Replays}
use Rattle.never_cut.proofs.journal.replay_on.Given as goal

abbrev pub invariant-loop-n : goal.invariant-loop-n
invariant-loop-n l = Replays l.program l.readings (model_of l.fn.first) l.entries l.n (model_of l.state)
