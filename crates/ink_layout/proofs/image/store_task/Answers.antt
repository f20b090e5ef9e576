-- All code of the task is stored.
use Rattle.ink_layout.proofs.Common.{◌≡◌, ℕ, ◌+◌, length, arith, ap, subst, Instr, task_def, Holds, code_until}
use Rattle.ink_layout.proofs.Images.{holds_as}
use Rattle.ink_layout.proofs.Stages.{code_end}
use Rattle.ink_layout.proofs.image.store_task.Goals as goal

pub returns : goal.returns
returns c =
    let len = ap (length {A = Instr}) c.code_of-n-end.ensures in
    let all : c.loop-n.n ≡ length (task_def c.args.program.now c.args.x).code = omega (arith, len) in
    holds_as c.args.program.now c.loop-n.fram (code_until c.args.program.now c.args.x (length (task_def c.args.program.now c.args.x).code))
    (code_until c.args.program.now (c.args.x + 1) 0)
    (subst (λ (n : ℕ). Holds c.args.program.now c.loop-n.fram (code_until c.args.program.now c.args.x n)) all c.loop-n.invariant)
    (code_end c.args.program.now c.args.x)
