-- The first so many rooms are made.
use Rattle.std.proofs.Common.{◌≡◌, ◌<◌, ◌≤◌, ◌-◌, length, slice_index, ℕ}
use Rattle.kernel_actor.proofs.book.later_rooms.Given as goal

abbrev pub invariant-loop-k : goal.invariant-loop-k
invariant-loop-k l = (length l.rooms.items ≡ l.k) × ((j : ℕ) → j < l.k → slice_index l.budgets (length l.budgets - 1 - j) ≤ slice_index l.rooms.items j)
