use Rattle.std.proofs.Common.{◌≡◌}
use Rattle.ink_plan.specs.Text.{path_lines}
use Rattle.ink_plan.proofs.text.paths_text.Given as goal

abbrev pub invariant-loop-x : goal.invariant-loop-x
invariant-loop-x l = l.out.items ≡ path_lines l.program l.plan l.x
