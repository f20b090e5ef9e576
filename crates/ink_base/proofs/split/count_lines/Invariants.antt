use Rattle.ink_base.proofs.Common.{◌≡◌, ◌+◌, ◌≤◌, true, drop}
use Rattle.ink_base.proofs.Count.{more_lines}
use Rattle.ink_base.proofs.split.count_lines.Given as goal

abbrev pub invariant-loop-b : goal.invariant-loop-b
invariant-loop-b l = (l.count ≤ l.b-index) × (l.count + more_lines l.fresh (drop l.b-index l.text) ≡ more_lines true l.text)
