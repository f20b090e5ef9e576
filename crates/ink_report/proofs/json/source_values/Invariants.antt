use Rattle.ink_report.proofs.Common.{◌≡◌, map, take, view, source_data}
use Rattle.ink_report.proofs.json.source_values.Given as goal

abbrev pub invariant-loop-source : goal.invariant-loop-source
invariant-loop-source l = map view l.values.items ≡ map source_data (take l.source-index l.sources)
