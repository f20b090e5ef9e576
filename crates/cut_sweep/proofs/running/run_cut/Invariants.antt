use Rattle.std.proofs.Common.{◌≡◌, ◌+◌, take, drop}
use Rattle.std.specs.List.{flat_map}
use Rattle.kernel_core.specs.Board.{moved_by}
use Rattle.kernel_core.specs.Core.{setup_of}
use Rattle.kernel_core.specs.Listed.{moves_of}
use Rattle.cut_sweep.proofs.running.run_cut.Given as goal

abbrev pub invariant-loop-charge : goal.invariant-loop-charge
invariant-loop-charge l =
    (l.core.job ≡ l.initial.core.job)
    × (l.core.board ≡ moved_by (setup_of l.initial.core.job) l.initial.core.board (flat_map moves_of (take l.charge-index (drop 1 l.job.charges))))
    × (l.core.board.begun ≡ 1 + l.charge-index)
