use Rattle.std.proofs.Common.{take, All}
use Rattle.audited_runs.specs.Audited.{IsNamed}
use Rattle.audited_runs.proofs.all_named.Given as goal

abbrev pub invariant-loop-thread : goal.invariant-loop-thread
invariant-loop-thread l = All IsNamed (take l.thread-index l.threads)
