-- The lengths of those before.
use Rattle.ink_layout.proofs.Common.{◌≡◌, ◌++◌, map, take, thread_regions, thread_shape}
use Rattle.ink_layout.proofs.starts.add_blocks.Given as goal

abbrev pub invariant-loop-thread : goal.invariant-loop-thread
invariant-loop-thread l = l.lengths.items ≡ l.initial.lengths.items ++ thread_regions (map thread_shape (take l.thread-index l.threads))
