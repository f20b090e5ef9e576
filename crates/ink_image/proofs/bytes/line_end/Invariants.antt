use Rattle.ink_image.proofs.Common.{◌≡◌, ◌+◌, drop}
use Rattle.ink_image.specs.Before.{line_end}
use Rattle.ink_image.proofs.bytes.line_end.Given as goal

abbrev pub invariant-loop-at : goal.invariant-loop-at
invariant-loop-at l = l.at + line_end (drop l.at l.text) l.left ≡ line_end l.text l.fn.number
