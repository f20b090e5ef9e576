use Rattle.kernel_core.proofs.Common.{◌≡◌, take, flat_map, moved_by, moves_of, setup_of}
use Rattle.kernel_core.proofs.board.Core.run.Given as goal

abbrev pub invariant-loop-n : goal.invariant-loop-n
invariant-loop-n l =
    (l.self.job ≡ l.initial.self.job) × (l.self.board ≡ moved_by (setup_of l.initial.self.job) l.initial.self.board (flat_map moves_of (take l.n l.initial.self.job.charges))) × (l.self.board.begun ≡ l.n)
