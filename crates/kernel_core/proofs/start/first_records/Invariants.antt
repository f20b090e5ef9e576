use Rattle.kernel_core.proofs.Common.{AreFirstRecords}
use Rattle.kernel_core.proofs.start.first_records.Given as goal

abbrev pub invariant-loop-k : goal.invariant-loop-k
invariant-loop-k l = AreFirstRecords l.job l.k l.records.items
