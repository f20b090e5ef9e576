-- The words of instructions.
use Rattle.std.specs.Prelude.{ℕ, Option, Some, None, Result, codes, if◌then◌else◌}
use Rattle.std.specs.Option.{option_map, option_or}
use Rattle.std.specs.Str.{bytes_eq}
use Rattle.ink_base.specs.Lines.{Word}
use Rattle.ink_base.specs.declared.fault.Cause.{Cause}
use Rattle.ink_text.specs.Words.{found}
use Rattle.task_isa.specs.declared.instr.Instr.{Instr}
use Rattle.task_isa.specs.declared.instr.Instr.TheVariants.{Mov, Add, Sub, Mul, And, Or, Xor, Shl, Shr, Divu, Remu, Ltu, Eq, Ev, Kind, Num, Now, Ld, St, Out}
use Rattle.task_lines.specs.declared.op.Op.{Op}
use Rattle.task_lines.specs.declared.op.Op.TheVariants.{Li, One, Two, Three, Jump, Device, Next, Done}
use Rattle.task_lines.specs.declared.op.OneOp.{OneOp}
use Rattle.task_lines.specs.declared.op.OneOp.TheVariants as ones
use Rattle.task_lines.specs.declared.op.TwoOp.{TwoOp}
use Rattle.task_lines.specs.declared.op.TwoOp.TheVariants as twos
use Rattle.task_lines.specs.declared.op.ThreeOp.{ThreeOp}
use Rattle.task_lines.specs.declared.op.ThreeOp.TheVariants as threes
use Rattle.task_lines.specs.declared.op.JumpOp.TheVariants as jumps
use Rattle.task_lines.specs.declared.op.DeviceOp.TheVariants as devices

-- one register
unfoldable pub one_op : Word → Option OneOp
one_op w =
    if bytes_eq w (codes "ev") then Some ones.Ev
    else (if bytes_eq w (codes "kind") then Some ones.Kind
    else (if bytes_eq w (codes "num") then Some ones.Num
    else (if bytes_eq w (codes "now") then Some ones.Now
    else (if bytes_eq w (codes "out") then Some ones.Out
    else None))))

-- two registers
unfoldable pub two_op : Word → Option TwoOp
two_op w =
    if bytes_eq w (codes "mov") then Some twos.Mov
    else (if bytes_eq w (codes "ld") then Some twos.Ld
    else (if bytes_eq w (codes "st") then Some twos.St
    else None))

-- three registers
unfoldable pub three_op : Word → Option ThreeOp
three_op w =
    if bytes_eq w (codes "add") then Some threes.Add
    else (if bytes_eq w (codes "sub") then Some threes.Sub
    else (if bytes_eq w (codes "mul") then Some threes.Mul
    else (if bytes_eq w (codes "and") then Some threes.And
    else (if bytes_eq w (codes "or") then Some threes.Or
    else (if bytes_eq w (codes "xor") then Some threes.Xor
    else (if bytes_eq w (codes "shl") then Some threes.Shl
    else (if bytes_eq w (codes "shr") then Some threes.Shr
    else (if bytes_eq w (codes "divu") then Some threes.Divu
    else (if bytes_eq w (codes "remu") then Some threes.Remu
    else (if bytes_eq w (codes "ltu") then Some threes.Ltu
    else (if bytes_eq w (codes "eq") then Some threes.Eq
    else None)))))))))))

-- registers alone
abbrev pub register_op : Word → Option Op
register_op w = option_or (option_map One (one_op w)) (option_or (option_map Two (two_op w)) (option_map Three (three_op w)))

-- other operands, or none
unfoldable pub other_op : Word → Option Op
other_op w =
    if bytes_eq w (codes "li") then Some Li
    else (if bytes_eq w (codes "jmp") then Some (Jump jumps.Jmp)
    else (if bytes_eq w (codes "jz") then Some (Jump jumps.Jz)
    else (if bytes_eq w (codes "jnz") then Some (Jump jumps.Jnz)
    else (if bytes_eq w (codes "send") then Some (Device devices.Send)
    else (if bytes_eq w (codes "arm") then Some (Device devices.Arm)
    else (if bytes_eq w (codes "stop") then Some (Device devices.Stop)
    else (if bytes_eq w (codes "next") then Some Next
    else (if bytes_eq w (codes "done") then Some Done
    else None))))))))

-- the instruction of a word
unfoldable pub op_of : Word → Result Op Cause
op_of w = found (option_or (register_op w) (other_op w))

-- the instruction with its register
abbrev pub one_instr : OneOp → ℕ → Instr
one_instr ones.Ev a = Ev a
one_instr ones.Kind a = Kind a
one_instr ones.Num a = Num a
one_instr ones.Now a = Now a
one_instr ones.Out a = Out a

-- the instruction with its two registers
abbrev pub two_instr : TwoOp → ℕ → ℕ → Instr
two_instr twos.Mov a b = Mov a b
two_instr twos.Ld a b = Ld a b
two_instr twos.St a b = St a b

-- the instruction with its three registers
abbrev pub three_instr : ThreeOp → ℕ → ℕ → ℕ → Instr
three_instr threes.Add a b c = Add a b c
three_instr threes.Sub a b c = Sub a b c
three_instr threes.Mul a b c = Mul a b c
three_instr threes.And a b c = And a b c
three_instr threes.Or a b c = Or a b c
three_instr threes.Xor a b c = Xor a b c
three_instr threes.Shl a b c = Shl a b c
three_instr threes.Shr a b c = Shr a b c
three_instr threes.Divu a b c = Divu a b c
three_instr threes.Remu a b c = Remu a b c
three_instr threes.Ltu a b c = Ltu a b c
three_instr threes.Eq a b c = Eq a b c
