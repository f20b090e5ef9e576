use Rattle.ink_image.proofs.Common.{◌≡◌, ◌+◌, ◌≤◌, length, lines, lines_of, numbered}
use Rattle.ink_image.specs.Before.{claim_line}
use Rattle.ink_image.proofs.claim.claim_line.Given as goal

abbrev pub invariant-lines : goal.invariant-lines
invariant-lines l = record {
  same : claim_line (numbered l.number (lines l.rest)) ≡ claim_line (lines_of l.text);
  number : l.number + length l.rest ≤ length l.text + 1;
}

abbrev pub decreases-lines : goal.decreases-lines
decreases-lines l = length l.rest
