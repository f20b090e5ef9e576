use Rattle.kernel_core.proofs.Common.{◌≡◌, ◌+◌, ◌≤◌, replicate, Turn, moved_by, setup_of}
use Rattle.kernel_core.proofs.board.Core.run_item.Given as goal

abbrev pub invariant-loop-turn : goal.invariant-loop-turn
invariant-loop-turn l =
    (l.self.job ≡ l.initial.self.job) × (l.self.board ≡ moved_by (setup_of l.initial.self.job) l.initial.self.board (replicate l._turn (Turn l.item.actor)))
    × (l.self.board.begun ≡ l.initial.self.board.begun) × (l.initial.self.room ≤ l.self.room + l._turn)
