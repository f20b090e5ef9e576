use Rattle.ink_base.proofs.Each.{Goes}
use Rattle.task_asm.specs.Targets.{instr_of, code_of}
use Rattle.task_asm.proofs.targets.code_of.Given as goal

abbrev pub invariant-loop-line : goal.invariant-loop-line
invariant-loop-line l = Goes (instr_of l.tasks l.labels) l.made l.code l.line-index (code_of l.tasks l.labels l.code)
