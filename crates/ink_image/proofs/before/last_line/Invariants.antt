use Rattle.ink_image.proofs.Common.{◌≡◌, length, token_lines}
use Rattle.ink_image.specs.Before.{last_line}
use Rattle.ink_image.proofs.before.last_line.Given as goal

abbrev pub invariant-lines : goal.invariant-lines
invariant-lines l = last_line l.tails (token_lines l.text l.rest) ≡ last_line l.tails (token_lines l.text l.fn.tokens)

abbrev pub decreases-lines : goal.decreases-lines
decreases-lines l = length l.rest
