-- The instructions of the canonical text are read as those that were printed, whose targets are names.
use Rattle.program_text.proofs.Common.{◌≡◌, ℕ, ◌+◌, ◌<◌, ◌≤◌, ◌^◌, true, false, List, [], ◌∷◌, ◌++◌, length, get_or, Some, None, Ok, codes, decimal, refl, arith, lt-ltb, eq-eqb, bytes_eq, Word, ThreadId, is_name, FitsWord, no_pipe_def, no_timer_def, task_def, Instr, Li, Jmp, Jz, Jnz, Send, Arm, Stop, Next, Done, Task, Program, HasDistinct, DraftTask, Draft, pipe_name, timer_name, label_of}
use Rattle.task_lines.specs.Devices.{own_pipe_in, own_timer_in}
use Rattle.task_lines.specs.Task.{instr_line, inside_line, line_in}
use Rattle.ink_base.specs.Checks.{word_in, end_in}
use Rattle.task_lines.specs.declared.draft.DraftInstr.{DraftInstr}
use Rattle.task_lines.specs.declared.draft.DraftInstr.TheVariants as drafts
use Rattle.task_lines.specs.declared.op.Op.{Op}
use Rattle.task_lines.specs.declared.op.Op.TheVariants as ops
use Rattle.task_lines.specs.declared.op.OneOp.{OneOp}
use Rattle.task_lines.specs.declared.op.TwoOp.{TwoOp}
use Rattle.task_lines.specs.declared.op.ThreeOp.{ThreeOp}
use Rattle.task_lines.specs.declared.op.JumpOp.TheVariants as jumps
use Rattle.task_lines.specs.declared.op.DeviceOp.TheVariants as devices
use Rattle.task_lines.specs.Ops.{op_of, one_instr, two_instr, three_instr}
use Rattle.task_lines.specs.Operands.{one_in, two_in, three_in, constant_in, target_in, register_target_in, jump_in, device_in, instr_in}
use Rattle.program_text.proofs.Spelled.{register_word, label_name}
use Rattle.program_text.proofs.WordsAgain.{number_again, register_in_again, label_is_name}
use Rattle.program_text.proofs.NamesAgain.{declared_again}
use Rattle.ink_base.specs.declared.limits.TheConstants as limits

-- an instruction as its line gives it
abbrev pub draft_of : Program → Instr → DraftInstr
draft_of program (Jmp i) = drafts.Jmp (label_name i)
draft_of program (Jz a i) = drafts.Jz a (label_name i)
draft_of program (Jnz a i) = drafts.Jnz a (label_name i)
draft_of program (Next i) = drafts.Next (task_def program i).name
draft_of program instr = drafts.Ready instr

-- what a draft has in which the code of a task of the program can be read
pub record CanCode (program : Program) (d : Draft) (task : Task) : Type 0 where
  pub pipes : d.pipes ≡ program.pipes
  pub timers : d.timers ≡ program.timers
  pub distinct : HasDistinct program
  pub named : (x : ℕ) → x < length program.tasks → is_name (task_def program x).name ≡ true
  pub short : length task.code ≤ limits.INSTRUCTIONS

one_in_again : (a : ℕ) → a < 16 → one_in (register_word a ∷ []) ≡ Ok a
unfolding one_in end_in
one_in_again a lt = rw (register_in_again a [] lt) refl

two_in_again : (a b : ℕ) → a < 16 → b < 16 → two_in (register_word a ∷ register_word b ∷ []) ≡ Ok (a, b)
unfolding two_in
two_in_again a b lt less = rw (register_in_again a _ lt, one_in_again b less) refl

three_in_again : (a b c : ℕ) → a < 16 → b < 16 → c < 16 → three_in (register_word a ∷ register_word b ∷ register_word c ∷ []) ≡ Ok (a, b, c)
unfolding three_in
three_in_again a b c lt less small = rw (register_in_again a _ lt, two_in_again b c less small) refl

constant_in_again : (a i : ℕ) → a < 16 → i < 2 ^ 32 → constant_in (register_word a ∷ decimal i ∷ []) ≡ Ok (a, i)
unfolding constant_in end_in
constant_in_again a i lt small = rw (register_in_again a _ lt, number_again 0 4294967295 i [] (omega arith) (omega arith) (omega arith)) refl

target_in_again : (w : Word) → is_name w ≡ true → target_in (w ∷ []) ≡ Ok w
unfolding target_in word_in end_in
target_in_again w named = rw named refl

register_target_again : (a : ℕ) (w : Word) → a < 16 → is_name w ≡ true → register_target_in (register_word a ∷ w ∷ []) ≡ Ok (a, w)
unfolding register_target_in
register_target_again a w lt named = rw (register_in_again a _ lt, target_in_again w named) refl

-- the operands of each form of instruction
pub one_again : (d : Draft) (thread : ThreadId) (op : OneOp) (a : ℕ) → a < 16 → instr_in d thread (ops.One op) (register_word a ∷ []) ≡ Ok (drafts.Ready (one_instr op a))
unfolding instr_in
one_again d thread op a lt = rw (one_in_again a lt) refl

pub two_again : (d : Draft) (thread : ThreadId) (op : TwoOp) (a b : ℕ) → a < 16 → b < 16 → instr_in d thread (ops.Two op) (register_word a ∷ register_word b ∷ []) ≡ Ok (drafts.Ready (two_instr op a b))
unfolding instr_in
two_again d thread op a b lt less = rw (two_in_again a b lt less) refl

pub three_again : (d : Draft) (thread : ThreadId) (op : ThreeOp) (a b c : ℕ) → FitsWord a b c 0
    → instr_in d thread (ops.Three op) (register_word a ∷ register_word b ∷ register_word c ∷ []) ≡ Ok (drafts.Ready (three_instr op a b c))
unfolding instr_in
three_again d thread op a b c fits = rw (three_in_again a b c fits.a_fits fits.b_fits fits.c_fits) refl

pub li_again : (d : Draft) (thread : ThreadId) (a i : ℕ) → a < 16 → i < 2 ^ 32 → instr_in d thread ops.Li (register_word a ∷ decimal i ∷ []) ≡ Ok (drafts.Ready (Li a i))
unfolding instr_in
li_again d thread a i lt small = rw (constant_in_again a i lt small) refl

pub jmp_again : (d : Draft) (thread : ThreadId) (i : ℕ) → i < limits.INSTRUCTIONS → instr_in d thread (ops.Jump jumps.Jmp) (label_name i ∷ []) ≡ Ok (drafts.Jmp (label_name i))
unfolding instr_in jump_in
jmp_again d thread i lt = rw (target_in_again (label_name i) (label_is_name i lt)) refl

pub jz_again : (d : Draft) (thread : ThreadId) (a i : ℕ) → a < 16 → i < limits.INSTRUCTIONS → instr_in d thread (ops.Jump jumps.Jz) (register_word a ∷ label_name i ∷ []) ≡ Ok (drafts.Jz a (label_name i))
unfolding instr_in jump_in
jz_again d thread a i small lt = rw (register_target_again a (label_name i) small (label_is_name i lt)) refl

pub jnz_again : (d : Draft) (thread : ThreadId) (a i : ℕ) → a < 16 → i < limits.INSTRUCTIONS → instr_in d thread (ops.Jump jumps.Jnz) (register_word a ∷ label_name i ∷ []) ≡ Ok (drafts.Jnz a (label_name i))
unfolding instr_in jump_in
jnz_again d thread a i small lt = rw (register_target_again a (label_name i) small (label_is_name i lt)) refl

pub next_again : (d : Draft) (thread : ThreadId) (w : Word) → is_name w ≡ true → instr_in d thread ops.Next (w ∷ []) ≡ Ok (drafts.Next w)
unfolding instr_in
next_again d thread w named = rw (target_in_again w named) refl

pub done_again : (d : Draft) (thread : ThreadId) → instr_in d thread ops.Done [] ≡ Ok (drafts.Ready Done)
unfolding instr_in end_in
done_again d thread = refl

own_pipe_again : (program : Program) (thread : ThreadId) (i : ℕ) (ws : List Word) → HasDistinct program → i < length program.pipes → (get_or program.pipes i no_pipe_def).writer.0 ≡ thread.0
    → own_pipe_in program.pipes thread ((get_or program.pipes i no_pipe_def).name ∷ ws) ≡ Ok (i, ws)
unfolding own_pipe_in
own_pipe_again program thread i ws distinct lt owns =
    rw (declared_again pipe_name program.pipes no_pipe_def i ws lt distinct.pipes, eq-eqb (get_or program.pipes i no_pipe_def).writer.0 thread.0 owns) refl

own_timer_again : (program : Program) (thread : ThreadId) (i : ℕ) (ws : List Word) → HasDistinct program → i < length program.timers → (get_or program.timers i no_timer_def).thread.0 ≡ thread.0
    → own_timer_in program.timers thread ((get_or program.timers i no_timer_def).name ∷ ws) ≡ Ok (i, ws)
unfolding own_timer_in
own_timer_again program thread i ws distinct lt owns =
    rw (declared_again timer_name program.timers no_timer_def i ws lt distinct.timers, eq-eqb (get_or program.timers i no_timer_def).thread.0 thread.0 owns) refl

pub send_again : (program : Program) (d : Draft) (thread : ThreadId) (i a b : ℕ) → d.pipes ≡ program.pipes → HasDistinct program → i < length program.pipes → (get_or program.pipes i no_pipe_def).writer.0 ≡ thread.0 → a < 16 → b < 16
    → instr_in d thread (ops.Device devices.Send) ((get_or program.pipes i no_pipe_def).name ∷ register_word a ∷ register_word b ∷ []) ≡ Ok (drafts.Ready (Send i a b))
unfolding instr_in device_in
send_again program d thread i a b same distinct lt owns small less = rw (same, own_pipe_again program thread i _ distinct lt owns, two_in_again a b small less) refl

pub arm_again : (program : Program) (d : Draft) (thread : ThreadId) (i a b : ℕ) → d.timers ≡ program.timers → HasDistinct program → i < length program.timers → (get_or program.timers i no_timer_def).thread.0 ≡ thread.0 → a < 16 → b < 16
    → instr_in d thread (ops.Device devices.Arm) ((get_or program.timers i no_timer_def).name ∷ register_word a ∷ register_word b ∷ []) ≡ Ok (drafts.Ready (Arm i a b))
unfolding instr_in device_in
arm_again program d thread i a b same distinct lt owns small less = rw (same, own_timer_again program thread i _ distinct lt owns, two_in_again a b small less) refl

pub stop_again : (program : Program) (d : Draft) (thread : ThreadId) (i : ℕ) → d.timers ≡ program.timers → HasDistinct program → i < length program.timers → (get_or program.timers i no_timer_def).thread.0 ≡ thread.0
    → instr_in d thread (ops.Device devices.Stop) ((get_or program.timers i no_timer_def).name ∷ []) ≡ Ok (drafts.Ready (Stop i))
unfolding instr_in device_in end_in
stop_again program d thread i same distinct lt owns = rw (same, own_timer_again program thread i [] distinct lt owns) refl

-- the draft with one more instruction in the task that is open
abbrev pub with_instr : Draft → DraftTask → ℕ → DraftInstr → Draft
with_instr d task line instr = record d { current = Some (record task { code = task.code ++ record { line = line; instr = instr } ∷ [] }); count = d.count + 1 }

-- a word that is no end, no label, and has this instruction
pub record IsOp (w : Word) (op : Op) : Type 0 where
  pub other : bytes_eq w (codes "end") ≡ false
  pub plain : label_of w ≡ None
  pub means : op_of w ≡ Ok op

pub line_from : (d : Draft) (task : DraftTask) (line : ℕ) (w : Word) (ws : List Word) (op : Op) (instr : DraftInstr) → IsOp w op → d.count < limits.INSTRUCTIONS → instr_in (record d { current = None }) task.thread op ws ≡ Ok instr
    → line_in (record d { current = Some task }) line (w ∷ ws) ≡ Ok (with_instr d task line instr)
unfolding line_in inside_line instr_line
line_from d task line w ws op instr is room read = rw (is.other, is.plain, is.means, lt-ltb d.count limits.INSTRUCTIONS room, read) refl
