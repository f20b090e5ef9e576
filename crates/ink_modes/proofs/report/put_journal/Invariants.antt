use Rattle.ink_modes.proofs.Common.{◌≡◌, ◌++◌, take, flat_map, entries_of}
use Rattle.ink_report.specs.Journal.{entry_lines}
use Rattle.ink_modes.proofs.report.put_journal.Given as goal

abbrev pub invariant-loop-charge : goal.invariant-loop-charge
invariant-loop-charge l = l.out.items ≡ l.fn.out.items ++ entry_lines l.program (flat_map entries_of (take l.charge-index l.charges))
