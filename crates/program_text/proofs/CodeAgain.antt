-- The line of each instruction is read as it.
use Rattle.program_text.proofs.Common.{◌≡◌, ℕ, ◌<◌, length, Some, None, Ok, sym, ap, ◌∙◌, arith, ThreadId, IsInstr, task_def, Instr, Li, Mov, Add, Sub, Mul, And, Or, Xor, Shl, Shr, Divu, Remu, Ltu, Eq, Jmp, Jz, Jnz, Ev, Kind, Num, Now, Ld, St, Out, Send, Arm, Stop, Next, Done, Task, Program, IsRightInstr, DraftTask, Draft, line_in}
use Rattle.task_lines.specs.declared.op.OneOp.TheVariants as ones
use Rattle.task_lines.specs.declared.op.TwoOp.TheVariants as twos
use Rattle.task_lines.specs.declared.op.ThreeOp.TheVariants as threes
use Rattle.program_text.proofs.Spelled.{instr_words}
use Rattle.program_text.proofs.InstrsAgain.{draft_of, CanCode, with_instr, line_from, one_again, two_again, three_again, li_again, jmp_again, jz_again, jnz_again, next_again, done_again, send_again, arm_again, stop_again}
use Rattle.program_text.proofs.OpsAgain.{ev_is, kind_is, num_is, now_is, out_is, mov_is, ld_is, st_is, add_is, sub_is, mul_is, and_is, or_is, xor_is, shl_is, shr_is, divu_is, remu_is, ltu_is, eq_is, jmp_is, jz_is, jnz_is, send_is, arm_is, stop_is, li_is, next_is, done_is}
use Rattle.ink_base.specs.declared.limits.TheConstants as limits

below : {program : Program} {d : Draft} (t : Task) (i : ℕ) → CanCode program d t → i < length t.code → i < limits.INSTRUCTIONS
below t i can lt = omega (arith, can.short)

owner : (id : ℕ) (t : Task) (task : DraftTask) → id ≡ t.thread.0 → task.thread ≡ t.thread → id ≡ task.thread.0
owner id t task e of = e ∙ ap (λ (x : ThreadId). x.0) (sym of)

-- the line of an instruction, behind others of its task
pub instr_again : (program : Program) (d : Draft) (t : Task) (task : DraftTask) (line : ℕ) (instr : Instr) → CanCode program d t → task.thread ≡ t.thread → IsInstr instr → IsRightInstr program t instr → d.count < limits.INSTRUCTIONS
    → line_in (record d { current = Some task }) line (instr_words program instr) ≡ Ok (with_instr d task line (draft_of program instr))
unfolding instr_words
instr_again program d t task line (Li a i) can of fits right room = line_from d task line _ _ _ _ li_is room (li_again (record d { current = None }) task.thread a i fits.a_fits fits.i_fits)
instr_again program d t task line (Ev a) can of fits right room = line_from d task line _ _ _ _ ev_is room (one_again (record d { current = None }) task.thread ones.Ev a fits.a_fits)
instr_again program d t task line (Kind a) can of fits right room = line_from d task line _ _ _ _ kind_is room (one_again (record d { current = None }) task.thread ones.Kind a fits.a_fits)
instr_again program d t task line (Num a) can of fits right room = line_from d task line _ _ _ _ num_is room (one_again (record d { current = None }) task.thread ones.Num a fits.a_fits)
instr_again program d t task line (Now a) can of fits right room = line_from d task line _ _ _ _ now_is room (one_again (record d { current = None }) task.thread ones.Now a fits.a_fits)
instr_again program d t task line (Out a) can of fits right room = line_from d task line _ _ _ _ out_is room (one_again (record d { current = None }) task.thread ones.Out a fits.a_fits)
instr_again program d t task line (Mov a b) can of fits right room = line_from d task line _ _ _ _ mov_is room (two_again (record d { current = None }) task.thread twos.Mov a b fits.a_fits fits.b_fits)
instr_again program d t task line (Ld a b) can of fits right room = line_from d task line _ _ _ _ ld_is room (two_again (record d { current = None }) task.thread twos.Ld a b fits.a_fits fits.b_fits)
instr_again program d t task line (St a b) can of fits right room = line_from d task line _ _ _ _ st_is room (two_again (record d { current = None }) task.thread twos.St a b fits.a_fits fits.b_fits)
instr_again program d t task line (Add a b c) can of fits right room = line_from d task line _ _ _ _ add_is room (three_again (record d { current = None }) task.thread threes.Add a b c fits)
instr_again program d t task line (Sub a b c) can of fits right room = line_from d task line _ _ _ _ sub_is room (three_again (record d { current = None }) task.thread threes.Sub a b c fits)
instr_again program d t task line (Mul a b c) can of fits right room = line_from d task line _ _ _ _ mul_is room (three_again (record d { current = None }) task.thread threes.Mul a b c fits)
instr_again program d t task line (And a b c) can of fits right room = line_from d task line _ _ _ _ and_is room (three_again (record d { current = None }) task.thread threes.And a b c fits)
instr_again program d t task line (Or a b c) can of fits right room = line_from d task line _ _ _ _ or_is room (three_again (record d { current = None }) task.thread threes.Or a b c fits)
instr_again program d t task line (Xor a b c) can of fits right room = line_from d task line _ _ _ _ xor_is room (three_again (record d { current = None }) task.thread threes.Xor a b c fits)
instr_again program d t task line (Shl a b c) can of fits right room = line_from d task line _ _ _ _ shl_is room (three_again (record d { current = None }) task.thread threes.Shl a b c fits)
instr_again program d t task line (Shr a b c) can of fits right room = line_from d task line _ _ _ _ shr_is room (three_again (record d { current = None }) task.thread threes.Shr a b c fits)
instr_again program d t task line (Divu a b c) can of fits right room = line_from d task line _ _ _ _ divu_is room (three_again (record d { current = None }) task.thread threes.Divu a b c fits)
instr_again program d t task line (Remu a b c) can of fits right room = line_from d task line _ _ _ _ remu_is room (three_again (record d { current = None }) task.thread threes.Remu a b c fits)
instr_again program d t task line (Ltu a b c) can of fits right room = line_from d task line _ _ _ _ ltu_is room (three_again (record d { current = None }) task.thread threes.Ltu a b c fits)
instr_again program d t task line (Eq a b c) can of fits right room = line_from d task line _ _ _ _ eq_is room (three_again (record d { current = None }) task.thread threes.Eq a b c fits)
instr_again program d t task line (Jmp i) can of fits right room = line_from d task line _ _ _ _ jmp_is room (jmp_again (record d { current = None }) task.thread i (below t i can right))
instr_again program d t task line (Jz a i) can of fits right room = line_from d task line _ _ _ _ jz_is room (jz_again (record d { current = None }) task.thread a i fits.a_fits (below t i can right))
instr_again program d t task line (Jnz a i) can of fits right room = line_from d task line _ _ _ _ jnz_is room (jnz_again (record d { current = None }) task.thread a i fits.a_fits (below t i can right))
instr_again program d t task line (Send i a b) can of fits right room = line_from d task line _ _ _ _ send_is room (send_again program (record d { current = None }) task.thread i a b can.pipes can.distinct right.0 (owner _ t task right.1 of) fits.a_fits fits.b_fits)
instr_again program d t task line (Arm i a b) can of fits right room = line_from d task line _ _ _ _ arm_is room (arm_again program (record d { current = None }) task.thread i a b can.timers can.distinct right.0 (owner _ t task right.1 of) fits.a_fits fits.b_fits)
instr_again program d t task line (Stop i) can of fits right room = line_from d task line _ _ _ _ stop_is room (stop_again program (record d { current = None }) task.thread i can.timers can.distinct right.0 (owner _ t task right.1 of))
instr_again program d t task line (Next i) can of fits right room = line_from d task line _ _ _ _ next_is room (next_again (record d { current = None }) task.thread (task_def program i).name (can.named i right.0))
instr_again program d t task line Done can of fits right room = line_from d task line _ _ _ _ done_is room (done_again (record d { current = None }) task.thread)
