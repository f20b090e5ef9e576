use Rattle.std.specs.Prelude.{◌≡◌, ◌+◌, ◌≤◌, true, drop}
use Rattle.ink_base.proofs.Count.{more_lines}
use Rattle.ink_modes.proofs.text.line_count.Given as goal

-- the lines so far, and those that begin in the rest
abbrev pub invariant-loop-b : goal.invariant-loop-b
invariant-loop-b l = (l.count ≤ l.b-index) × (l.count + more_lines l.fresh (drop l.b-index l.text) ≡ more_lines true l.text)
