use Rattle.ink_report.proofs.Common.{◌-◌, length, take}
use Rattle.ink_report.proofs.Counted.{Counts}
use Rattle.ink_report.proofs.summary.Summary.count.Given as goal

abbrev pub invariant-loop-entry : goal.invariant-loop-entry
invariant-loop-entry l = Counts l.fn.self l.self (take l.entry-index l.entries) (length l.entries - l.entry-index)
