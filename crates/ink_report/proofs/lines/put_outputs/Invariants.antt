use Rattle.ink_report.proofs.Common.{◌≡◌, ◌++◌, take, output_lines}
use Rattle.ink_report.proofs.lines.put_outputs.Given as goal

abbrev pub invariant-loop-output : goal.invariant-loop-output
invariant-loop-output l = l.out.items ≡ l.fn.out.items ++ output_lines l.program (take l.output-index l.outputs)
