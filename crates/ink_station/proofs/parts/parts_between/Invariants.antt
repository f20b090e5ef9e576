use Rattle.std.proofs.Common.{◌≡◌, ◌++◌, drop}
use Rattle.ink_station.specs.Parts.{parts_between}
use Rattle.ink_station.proofs.parts.parts_between.Given as goal

abbrev pub invariant-loop-n : goal.invariant-loop-n
invariant-loop-n l = l.parts.items ++ parts_between l.end (drop l.n l.headers) ≡ parts_between l.end l.headers
