use Rattle.ink_report.proofs.Common.{◌≡◌, map, take, view, thread_data}
use Rattle.ink_report.proofs.json.thread_values.Given as goal

abbrev pub invariant-loop-thread : goal.invariant-loop-thread
invariant-loop-thread l = map view l.values.items ≡ map thread_data (take l.thread-index l.threads)
