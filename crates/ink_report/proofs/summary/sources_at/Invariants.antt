use Rattle.ink_report.proofs.Common.{◌≡◌, map, [], range_with_len, source_summary}
use Rattle.ink_report.proofs.summary.sources_at.Given as goal

abbrev pub invariant-loop-i : goal.invariant-loop-i
invariant-loop-i l = l.sources ≡ map (source_summary l.model []) (range_with_len 0 l.i)
