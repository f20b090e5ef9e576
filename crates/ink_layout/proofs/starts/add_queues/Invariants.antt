-- The lengths of those before.
use Rattle.ink_layout.proofs.Common.{◌≡◌, ◌++◌, map, take, queue_regions, queue_words}
use Rattle.ink_layout.proofs.starts.add_queues.Given as goal

abbrev pub invariant-loop-thread : goal.invariant-loop-thread
invariant-loop-thread l = l.lengths.items ≡ l.initial.lengths.items ++ queue_regions (map queue_words (take l.thread-index l.threads))
