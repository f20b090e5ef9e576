use Rattle.std.proofs.Common.{◌≡◌, ◌++◌, length, vec_len, vec_capacity}
use Rattle.std.specs.List.{AllZip}
use Rattle.ink_station.specs.kept.Cores.{IsRecordOf}
use Rattle.ink_station.proofs.running.recorded.Given as goal

abbrev pub invariant-loop-core : goal.invariant-loop-core
invariant-loop-core l =
    AllZip IsRecordOf l.yielded l.records.items × (vec_len l.records ≡ length l.yielded) × (vec_capacity l.records ≡ vec_capacity l.fn.records)
    × (l.fn.cores.items ≡ l.yielded ++ l.core-iterator.rest.items)
