use Rattle.never_cut.proofs.Common.{◌≡◌, map, take, open_thread}
use Rattle.never_cut.proofs.opening.threads_at_start.Given as goal

abbrev pub invariant-loop-thread : goal.invariant-loop-thread
invariant-loop-thread l = l.models.items ≡ map open_thread (take l.thread-index l.threads)
