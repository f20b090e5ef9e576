-- Code of an accepted program is closed.
use Rattle.std.proofs.Common.{◌≡◌, ℕ, ◌+◌, ◌-◌, ◌<◌, true, length, Some, sym, ap, ◌∙◌, inl, inr, arith}
use Rattle.std.proofs.lemmas.Bool.{cases_lt, false≢true}
use Rattle.task_isa.specs.declared.instr.Instr.{Instr}
use Rattle.task_isa.specs.declared.instr.Instr.TheVariants.{Jmp, Jz, Jnz}
use Rattle.task_isa.specs.declared.program.Program.{Program}
use Rattle.task_isa.specs.declared.program.Task.{Task}
use Rattle.prog_check.specs.Accepted.{IsRightTask, IsRightInstr, ends_code}
use Rattle.prog_check.specs.Lookup.{instr_at}
use Rattle.ink_plan.specs.Code.{target_of}
use Rattle.ink_plan.specs.kept.Closed.{IsClosed}

-- a right jump stays in its code
target_inside : (program : Program) (task : Task) (instr : Instr) (i : ℕ) → IsRightInstr program task instr → target_of instr ≡ Some i → i < length task.code
target_inside program task (Jmp k) i right is = let same : k ≡ i = cc in omega arith
target_inside program task (Jz a k) i right is = let same : k ≡ i = cc in omega arith
target_inside program task (Jnz a k) i right is = let same : k ≡ i = cc in omega arith
target_inside program task _ i right is = absurd cc

pub closed : (program : Program) (task : Task) → IsRightTask program task → IsClosed task
closed program task right = record {
  some = right.code;
  next = λ at inside goes.
      elim (cases_lt (at + 1) (length task.code)) [
        | inl less ↦ less
        | inr most ↦
            let last : at ≡ length task.code - 1 = omega arith in
            let ends : ends_code (instr_at task (length task.code - 1)) ≡ true = right.ends in
            absurd (false≢true (sym goes ∙ ap (λ (k : ℕ). ends_code (instr_at task k)) last ∙ ends))
      ];
  target = λ at i inside is. target_inside program task (instr_at task at) i (right.instrs at inside) is;
}
