use Rattle.ink_audit.proofs.Common.{◌≡◌, ℕ, ◌+◌, ◌≤◌, List, ◌++◌, length, All, lines, IsOther}
use Rattle.ink_audit.proofs.claim.journal_of.Given as goal

-- the lines so far are none of them the header, and their number is counted
abbrev pub invariant-lines : goal.invariant-lines
invariant-lines l = record {
  before : List (List ℕ);
  parts : lines l.claim ≡ before ++ lines l.rest;
  other : All IsOther before;
  counted : l.line ≡ length before + 1;
  room : l.line + length l.rest ≤ length l.claim + 1;
}

abbrev pub decreases-lines : goal.decreases-lines
decreases-lines l = length l.rest
