use Rattle.ink_audit.proofs.Common.{◌≡◌, ℕ, ◌+◌, ◌≤◌, List, ◌++◌, length, lines, AreLinesOf}
use Rattle.ink_audit.proofs.claim.entries_of.Given as goal

-- the lines so far are those of the entries so far
abbrev pub invariant-lines : goal.invariant-lines
invariant-lines l = record {
  read : List (List ℕ);
  parts : lines l.fn.journal.text.now ≡ read ++ lines l.rest;
  are : AreLinesOf l.program l.entries.items read;
  counted : l.line ≡ l.fn.journal.first + length read;
  room : l.line + length l.rest ≤ l.fn.journal.first + length l.fn.journal.text.now;
}

abbrev pub decreases-lines : goal.decreases-lines
decreases-lines l = length l.rest
