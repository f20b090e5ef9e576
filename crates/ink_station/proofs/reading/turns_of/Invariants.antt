use Rattle.std.proofs.Common.{◌≡◌, ◌≤◌, drop}
use Rattle.ink_base.specs.declared.limits.TheConstants as limits
use Rattle.ink_station.specs.Jobs.{turns_of}
use Rattle.ink_station.proofs.reading.turns_of.Given as goal

abbrev pub invariant-loop-part : goal.invariant-loop-part
invariant-loop-part l = (l.turns ≤ limits.TURNS) × (turns_of 0 l.text l.parts ≡ turns_of l.turns l.text (drop l.part-index l.parts))
