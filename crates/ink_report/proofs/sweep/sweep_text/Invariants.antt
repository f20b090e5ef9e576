use Rattle.ink_report.proofs.Common.{◌≡◌, take, flat_map}
use Rattle.ink_report.specs.Sweep.{row_line}
use Rattle.ink_report.proofs.sweep.sweep_text.Given as goal

abbrev pub invariant-loop-row : goal.invariant-loop-row
invariant-loop-row l = l.out.items ≡ flat_map row_line (take l.row-index l.row-items)
