use Rattle.kernel_core.proofs.Common.{◌≡◌, ◌≤◌, take, drop, flat_map, item_turns, moved_by, turns_of, setup_of, charge_def}
use Rattle.kernel_core.proofs.board.Core.run_charge.Given as goal

abbrev pub invariant-loop-k : goal.invariant-loop-k
invariant-loop-k l =
    (l.self.job ≡ l.initial.self.job) × (l.self.board ≡ moved_by (setup_of l.initial.self.job) l.initial.self.board (flat_map turns_of (take l.k (charge_def l.initial.self.job l.n).items)))
    × (l.self.board.begun ≡ l.initial.self.board.begun) × (item_turns (drop l.k (charge_def l.initial.self.job l.n).items) ≤ l.self.room)
