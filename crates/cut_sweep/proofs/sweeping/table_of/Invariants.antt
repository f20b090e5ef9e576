use Rattle.std.proofs.Common.{◌≡◌, ℕ, ◌+◌, ◌<◌, ◌≤◌, length, get_or, vec_len, vec_capacity}
use Rattle.cut_sweep.specs.Sweep.{IsRowOf, no_row}
use Rattle.cut_sweep.proofs.sweeping.table_of.Given as goal

abbrev pub invariant-loop-n : goal.invariant-loop-n
invariant-loop-n l =
    (l.core.job ≡ l.job) × (vec_len l.rows ≡ l.n) × (l.turns + 1 ≤ vec_capacity l.rows) × (length l.rows.items ≡ l.n)
    × ((k : ℕ) → k < l.n → IsRowOf l.job k (get_or l.rows.items k no_row))
