use Rattle.ink_modes.proofs.Common.{◌≡◌, ◌++◌, drop}
use Rattle.ink_modes.specs.modes.Station.{boards_text}
use Rattle.ink_modes.proofs.modes.station.boards_text.Given as goal

abbrev pub invariant-loop-number : goal.invariant-loop-number
invariant-loop-number g l = l.text.items ++ boards_text l.fn.flags l.number (drop l.number l.records) ≡ boards_text l.fn.flags 0 l.records
