use Rattle.ink_report.proofs.Common.{◌≡◌, ◌++◌, take, flat_map, source_line}
use Rattle.ink_report.proofs.lines.put_sources.Given as goal

abbrev pub invariant-loop-source : goal.invariant-loop-source
invariant-loop-source l = l.out.items ≡ l.fn.out.items ++ flat_map source_line (take l.source-index l.sources)
