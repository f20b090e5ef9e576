use Rattle.std.proofs.Common.{◌≡◌, ◌++◌}
use Rattle.std.specs.List.{AllZip}
use Rattle.ink_station.specs.kept.Cores.{IsPrepared}
use Rattle.ink_station.proofs.running.prepared.Given as goal

abbrev pub invariant-loop-job : goal.invariant-loop-job
invariant-loop-job l = AllZip IsPrepared l.yielded l.cores.items × (l.fn.jobs.items ≡ l.yielded ++ l.job-iterator.rest.items)
