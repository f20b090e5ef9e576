use Rattle.ink_audit.proofs.Common.{◌≡◌, ◌+◌, length, take}
use Rattle.ink_audit.specs.kept.Feeds.{feeds}
use Rattle.ink_audit.proofs.comparing.compare.Given as goal

-- the bytes so far are the same, and their line feeds are counted
abbrev pub invariant-loop-left : goal.invariant-loop-left
invariant-loop-left l = record {
  same : take (length l.yielded) l.claim ≡ take (length l.yielded) l.text;
  counted : l.line ≡ feeds (take (length l.yielded) l.claim) + 1;
}
