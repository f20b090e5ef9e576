use Rattle.std.proofs.Common.{◌≡◌, ◌+◌, drop}
use Rattle.ink_station.specs.Parts.{lines_len}
use Rattle.ink_station.proofs.parts.lines_len.Given as goal

abbrev pub invariant-loop-n : goal.invariant-loop-n
invariant-loop-n l = lines_len l.count l.text ≡ l.n + lines_len l.left (drop l.n l.text)
