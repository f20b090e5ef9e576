use Rattle.kernel_core.proofs.Common.{◌≡◌, ℕ, ◌<◌, length, get_or}
use Rattle.kernel_core.proofs.start.write_words.Given as goal

abbrev pub invariant-loop-addr : goal.invariant-loop-addr
invariant-loop-addr l = (length l.fram ≡ length l.words) × ((k : ℕ) → k < l.addr → get_or l.fram k 0 ≡ get_or l.words k 0)
