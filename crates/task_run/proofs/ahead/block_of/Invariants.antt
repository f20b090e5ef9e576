-- The words so far are those of the addresses from the first on.
use Rattle.std.proofs.Common.{◌≡◌, ℕ, ◌+◌, ◌<◌, get_or}
use Rattle.task_run.proofs.ahead.block_of.Given as goal

abbrev pub invariant-loop-n : goal.invariant-loop-n
invariant-loop-n l = (k : ℕ) → k < l.n → get_or l.word-items k 0 ≡ get_or l.fram (l.first + k) 0
