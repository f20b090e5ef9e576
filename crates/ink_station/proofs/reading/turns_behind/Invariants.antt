use Rattle.std.proofs.Common.{◌≡◌, ◌≤◌, drop}
use Rattle.ink_base.specs.declared.limits.TheConstants as limits
use Rattle.ink_station.specs.Jobs.{turns_behind}
use Rattle.ink_station.proofs.reading.turns_behind.Given as goal

abbrev pub invariant-loop-n : goal.invariant-loop-n
invariant-loop-n l = (l.turns ≤ limits.TURNS) × (turns_behind l.before l.charges l.lines ≡ turns_behind l.turns (drop l.n l.charges) (drop l.n l.lines))
