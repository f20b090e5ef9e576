use Rattle.ink_report.proofs.Common.{take_all, ap, ◌∙◌, flat_map}
use Rattle.ink_report.specs.Sweep.{row_line}
use Rattle.ink_report.proofs.sweep.sweep_text.Goals as goal

pub returns : goal.returns
returns c = c.loop-row.invariant ∙ ap (flat_map row_line) (take_all c.loop-row.row-index c.as_slice-row-items.result.now c.loop-row-test.false ∙ c.as_slice-row-items.ensures)
