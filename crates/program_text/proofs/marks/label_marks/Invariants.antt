use Rattle.program_text.proofs.Common.{length, take, AreMarks}
use Rattle.program_text.proofs.marks.label_marks.Given as goal

abbrev pub invariant-loop-instr : goal.invariant-loop-instr
invariant-loop-instr l = AreMarks l.marks.items (length l.code) (take l.instr-index l.code)
