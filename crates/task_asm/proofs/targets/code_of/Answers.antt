use Rattle.std.proofs.Common.{arith}
use Rattle.ink_base.proofs.Each.{Goes-none, Goes-more, Goes-fails, Goes-all}
use Rattle.task_asm.specs.Targets.{instr_of}
use Rattle.task_asm.proofs.targets.code_of.Goals as goal

pub loop-line-init : goal.loop-line-init
loop-line-init c = rw c.new-made.ensures (Goes-none (instr_of c.args.tasks.now c.args.labels.now) c.args.code.now)

pub returns-in-Err : goal.returns-in-Err
returns-in-Err c =
    Goes-fails (instr_of c.args.tasks.now c.args.labels.now) c.loop-line.made c.args.code.now c.loop-line.line-index _ c.in-Err.e c.line-item.result (omega arith)
    (rw (← c.line-item.is) c.in-Err.ensures) c.loop-line.invariant

pub loop-line-preserved : goal.loop-line-preserved
loop-line-preserved c =
    rw c.in_ok-push-in-Ok.ensures.ok
    (Goes-more (instr_of c.args.tasks.now c.args.labels.now) c.loop-line.made c.args.code.now c.loop-line.line-index _ c.in-Ok.instr c.line-item.result (omega arith)
    (rw (← c.line-item.is) c.in-Ok.ensures) c.loop-line.invariant)

pub returns : goal.returns
returns c = Goes-all (instr_of c.args.tasks.now c.args.labels.now) c.loop-line.made c.args.code.now c.loop-line.line-index _ (omega arith) c.loop-line.invariant
