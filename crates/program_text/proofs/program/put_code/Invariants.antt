use Rattle.program_text.proofs.Common.{◌≡◌, ◌++◌, take, All, IsInstr, each_below, line_text}
use Rattle.program_text.proofs.program.put_code.Given as goal

abbrev pub invariant-loop-offset : goal.invariant-loop-offset
invariant-loop-offset l = (l.out.items ≡ l.fn.out.items ++ each_below l.offset (line_text l.program l.task)) × All IsInstr (take l.offset l.task.code)
