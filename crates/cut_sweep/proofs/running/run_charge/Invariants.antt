use Rattle.std.proofs.Common.{◌≡◌, ◌-◌, ◌≤◌, take, drop}
use Rattle.std.specs.List.{flat_map}
use Rattle.job_parts.specs.Job.{item_turns}
use Rattle.kernel_core.specs.Board.{moved_by}
use Rattle.kernel_core.specs.Core.{setup_of}
use Rattle.kernel_core.specs.Listed.{turns_of}
use Rattle.cut_sweep.specs.Cut.{first_turns}
use Rattle.cut_sweep.proofs.running.run_charge.Given as goal

abbrev pub invariant-loop-item : goal.invariant-loop-item
invariant-loop-item l =
    (l.core.job ≡ l.initial.core.job)
    × (l.core.board ≡ moved_by (setup_of l.initial.core.job) l.initial.core.board (flat_map turns_of (first_turns l.turns (take l.item-index l.charge.items))))
    × (l.core.board.begun ≡ l.initial.core.board.begun) × (item_turns (drop l.item-index l.charge.items) ≤ l.core.room) × (l.left ≡ l.turns - item_turns (take l.item-index l.charge.items))
