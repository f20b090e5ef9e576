use Rattle.ink_report.proofs.Common.{◌≡◌, map, range_with_len, thread_summary}
use Rattle.ink_report.proofs.summary.threads_at.Given as goal

abbrev pub invariant-loop-t : goal.invariant-loop-t
invariant-loop-t l = l.threads ≡ map (thread_summary l.program l.model) (range_with_len 0 l.t)
