use Rattle.ink_report.proofs.Common.{◌≡◌, ◌++◌, take}
use Rattle.ink_report.specs.Journal.{entry_lines}
use Rattle.ink_report.proofs.journal.put_entries.Given as goal

abbrev pub invariant-loop-entry : goal.invariant-loop-entry
invariant-loop-entry l = l.out.items ≡ l.fn.out.items ++ entry_lines l.program (take l.entry-index l.entries)
