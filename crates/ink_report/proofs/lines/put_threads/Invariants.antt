use Rattle.ink_report.proofs.Common.{◌≡◌, ◌++◌, take, flat_map, thread_line}
use Rattle.ink_report.proofs.lines.put_threads.Given as goal

abbrev pub invariant-loop-thread : goal.invariant-loop-thread
invariant-loop-thread l = l.out.items ≡ l.fn.out.items ++ flat_map thread_line (take l.thread-index l.threads)
