-- The operands of instructions.
use Rattle.std.specs.Prelude.{ℕ, ◌-◌, ◌&&◌, List, [], ◌∷◌, Result, Ok, Err, nat_le, ◌==◌, if◌then◌else◌}
use Rattle.ink_base.specs.Lines.{Word}
use Rattle.ink_base.specs.Numbers.{is_digit}
use Rattle.ink_base.specs.declared.fault.Cause.{Cause}
use Rattle.ink_base.specs.declared.fault.Cause.TheVariants.{UnknownWord}
use Rattle.ink_base.specs.declared.ids.ThreadId.{ThreadId}
use Rattle.ink_base.specs.Gives.{◌>>=◌}
use Rattle.ink_base.specs.Checks.{word_in, number_in, end_in}
use Rattle.task_isa.specs.declared.instr.Instr.{Instr}
use Rattle.task_isa.specs.declared.instr.Instr.TheVariants.{Li, Send, Arm, Stop, Done}
use Rattle.task_lines.specs.declared.op.Op.{Op}
use Rattle.task_lines.specs.declared.op.Op.TheVariants as ops
use Rattle.task_lines.specs.declared.op.JumpOp.{JumpOp}
use Rattle.task_lines.specs.declared.op.JumpOp.TheVariants as jumps
use Rattle.task_lines.specs.declared.op.DeviceOp.{DeviceOp}
use Rattle.task_lines.specs.declared.op.DeviceOp.TheVariants as devices
use Rattle.task_lines.specs.declared.draft.Draft.{Draft}
use Rattle.task_lines.specs.declared.draft.DraftInstr.{DraftInstr}
use Rattle.task_lines.specs.declared.draft.DraftInstr.TheVariants.{Ready, Jmp, Jz, Jnz, Next}
use Rattle.task_lines.specs.Named.{name_of}
use Rattle.task_lines.specs.Devices.{own_pipe_in, own_timer_in}
use Rattle.task_lines.specs.Ops.{one_instr, two_instr, three_instr}

-- the register of a word, r0 to r15
unfoldable pub register_of : Word → Result ℕ Cause
register_of [] = Err UnknownWord
register_of (r ∷ []) = Err UnknownWord
register_of (r ∷ d ∷ []) = if r == 114 && is_digit d then Ok (d - 48) else Err UnknownWord
register_of (r ∷ t ∷ d ∷ []) = if r == 114 && t == 49 && nat_le 48 d && nat_le d 53 then Ok (d - 38) else Err UnknownWord
register_of (r ∷ t ∷ d ∷ b ∷ w) = Err UnknownWord

-- a register
unfoldable pub register_in : List Word → Result (ℕ × List Word) Cause
register_in ws = do
  w ← word_in ws
  r ← register_of w.0
  Ok (r, w.1)

-- a register, and the end of the line
unfoldable pub one_in : List Word → Result ℕ Cause
one_in ws = do
  a ← register_in ws
  e ← end_in a.1
  Ok a.0

-- two registers, and the end of the line
unfoldable pub two_in : List Word → Result (ℕ × ℕ) Cause
two_in ws = do
  a ← register_in ws
  b ← one_in a.1
  Ok (a.0, b)

-- three registers, and the end of the line
unfoldable pub three_in : List Word → Result (ℕ × ℕ × ℕ) Cause
three_in ws = do
  a ← register_in ws
  b ← two_in a.1
  Ok (a.0, b.0, b.1)

-- a register and a number of 32 bits, and the end of the line
unfoldable pub constant_in : List Word → Result (ℕ × ℕ) Cause
constant_in ws = do
  a ← register_in ws
  i ← number_in 0 4294967295 a.1
  e ← end_in i.1
  Ok (a.0, i.0)

-- the name of a target that may come later, and the end of the line
unfoldable pub target_in : List Word → Result Word Cause
target_in ws = do
  w ← word_in ws
  name ← name_of w.0
  e ← end_in w.1
  Ok name

-- a register and a target
unfoldable pub register_target_in : List Word → Result (ℕ × Word) Cause
register_target_in ws = do
  a ← register_in ws
  target ← target_in a.1
  Ok (a.0, target)

-- a jump, by the words behind its first
unfoldable pub jump_in : JumpOp → List Word → Result DraftInstr Cause
jump_in jumps.Jmp ws = do
  target ← target_in ws
  Ok (Jmp target)
jump_in jumps.Jz ws = do
  x ← register_target_in ws
  Ok (Jz x.0 x.1)
jump_in jumps.Jnz ws = do
  x ← register_target_in ws
  Ok (Jnz x.0 x.1)

-- an instruction of the thread on a pipe or timer, by the words behind its first
unfoldable pub device_in : Draft → ThreadId → DeviceOp → List Word → Result Instr Cause
device_in d thread devices.Send ws = do
  pipe ← own_pipe_in d.pipes thread ws
  x ← two_in pipe.1
  Ok (Send pipe.0 x.0 x.1)
device_in d thread devices.Arm ws = do
  timer ← own_timer_in d.timers thread ws
  x ← two_in timer.1
  Ok (Arm timer.0 x.0 x.1)
device_in d thread devices.Stop ws = do
  timer ← own_timer_in d.timers thread ws
  e ← end_in timer.1
  Ok (Stop timer.0)

-- an instruction of the thread, by the words behind its first
unfoldable pub instr_in : Draft → ThreadId → Op → List Word → Result DraftInstr Cause
instr_in d thread ops.Li ws = do
  x ← constant_in ws
  Ok (Ready (Li x.0 x.1))
instr_in d thread (ops.One op) ws = do
  a ← one_in ws
  Ok (Ready (one_instr op a))
instr_in d thread (ops.Two op) ws = do
  x ← two_in ws
  Ok (Ready (two_instr op x.0 x.1))
instr_in d thread (ops.Three op) ws = do
  x ← three_in ws
  Ok (Ready (three_instr op x.0 x.1 x.2))
instr_in d thread (ops.Jump op) ws = jump_in op ws
instr_in d thread (ops.Device op) ws = do
  instr ← device_in d thread op ws
  Ok (Ready instr)
instr_in d thread ops.Next ws = do
  task ← target_in ws
  Ok (Next task)
instr_in d thread ops.Done ws = do
  e ← end_in ws
  Ok (Ready Done)
