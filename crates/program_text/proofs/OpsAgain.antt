-- The words of instructions.
use Rattle.program_text.proofs.Common.{codes, refl}
use Rattle.task_lines.specs.declared.op.Op.TheVariants as ops
use Rattle.task_lines.specs.declared.op.OneOp.TheVariants as ones
use Rattle.task_lines.specs.declared.op.TwoOp.TheVariants as twos
use Rattle.task_lines.specs.declared.op.ThreeOp.TheVariants as threes
use Rattle.task_lines.specs.declared.op.JumpOp.TheVariants as jumps
use Rattle.task_lines.specs.declared.op.DeviceOp.TheVariants as devices
use Rattle.task_lines.specs.Ops.{one_op, two_op, three_op, other_op, op_of}
use Rattle.program_text.proofs.InstrsAgain.{IsOp}

pub ev_is : IsOp (codes "ev") (ops.One ones.Ev)
unfolding op_of one_op two_op three_op other_op
ev_is = record { other = refl; plain = refl; means = refl }

pub kind_is : IsOp (codes "kind") (ops.One ones.Kind)
unfolding op_of one_op two_op three_op other_op
kind_is = record { other = refl; plain = refl; means = refl }

pub num_is : IsOp (codes "num") (ops.One ones.Num)
unfolding op_of one_op two_op three_op other_op
num_is = record { other = refl; plain = refl; means = refl }

pub now_is : IsOp (codes "now") (ops.One ones.Now)
unfolding op_of one_op two_op three_op other_op
now_is = record { other = refl; plain = refl; means = refl }

pub out_is : IsOp (codes "out") (ops.One ones.Out)
unfolding op_of one_op two_op three_op other_op
out_is = record { other = refl; plain = refl; means = refl }

pub mov_is : IsOp (codes "mov") (ops.Two twos.Mov)
unfolding op_of one_op two_op three_op other_op
mov_is = record { other = refl; plain = refl; means = refl }

pub ld_is : IsOp (codes "ld") (ops.Two twos.Ld)
unfolding op_of one_op two_op three_op other_op
ld_is = record { other = refl; plain = refl; means = refl }

pub st_is : IsOp (codes "st") (ops.Two twos.St)
unfolding op_of one_op two_op three_op other_op
st_is = record { other = refl; plain = refl; means = refl }

pub add_is : IsOp (codes "add") (ops.Three threes.Add)
unfolding op_of one_op two_op three_op other_op
add_is = record { other = refl; plain = refl; means = refl }

pub sub_is : IsOp (codes "sub") (ops.Three threes.Sub)
unfolding op_of one_op two_op three_op other_op
sub_is = record { other = refl; plain = refl; means = refl }

pub mul_is : IsOp (codes "mul") (ops.Three threes.Mul)
unfolding op_of one_op two_op three_op other_op
mul_is = record { other = refl; plain = refl; means = refl }

pub and_is : IsOp (codes "and") (ops.Three threes.And)
unfolding op_of one_op two_op three_op other_op
and_is = record { other = refl; plain = refl; means = refl }

pub or_is : IsOp (codes "or") (ops.Three threes.Or)
unfolding op_of one_op two_op three_op other_op
or_is = record { other = refl; plain = refl; means = refl }

pub xor_is : IsOp (codes "xor") (ops.Three threes.Xor)
unfolding op_of one_op two_op three_op other_op
xor_is = record { other = refl; plain = refl; means = refl }

pub shl_is : IsOp (codes "shl") (ops.Three threes.Shl)
unfolding op_of one_op two_op three_op other_op
shl_is = record { other = refl; plain = refl; means = refl }

pub shr_is : IsOp (codes "shr") (ops.Three threes.Shr)
unfolding op_of one_op two_op three_op other_op
shr_is = record { other = refl; plain = refl; means = refl }

pub divu_is : IsOp (codes "divu") (ops.Three threes.Divu)
unfolding op_of one_op two_op three_op other_op
divu_is = record { other = refl; plain = refl; means = refl }

pub remu_is : IsOp (codes "remu") (ops.Three threes.Remu)
unfolding op_of one_op two_op three_op other_op
remu_is = record { other = refl; plain = refl; means = refl }

pub ltu_is : IsOp (codes "ltu") (ops.Three threes.Ltu)
unfolding op_of one_op two_op three_op other_op
ltu_is = record { other = refl; plain = refl; means = refl }

pub eq_is : IsOp (codes "eq") (ops.Three threes.Eq)
unfolding op_of one_op two_op three_op other_op
eq_is = record { other = refl; plain = refl; means = refl }

pub jmp_is : IsOp (codes "jmp") (ops.Jump jumps.Jmp)
unfolding op_of one_op two_op three_op other_op
jmp_is = record { other = refl; plain = refl; means = refl }

pub jz_is : IsOp (codes "jz") (ops.Jump jumps.Jz)
unfolding op_of one_op two_op three_op other_op
jz_is = record { other = refl; plain = refl; means = refl }

pub jnz_is : IsOp (codes "jnz") (ops.Jump jumps.Jnz)
unfolding op_of one_op two_op three_op other_op
jnz_is = record { other = refl; plain = refl; means = refl }

pub send_is : IsOp (codes "send") (ops.Device devices.Send)
unfolding op_of one_op two_op three_op other_op
send_is = record { other = refl; plain = refl; means = refl }

pub arm_is : IsOp (codes "arm") (ops.Device devices.Arm)
unfolding op_of one_op two_op three_op other_op
arm_is = record { other = refl; plain = refl; means = refl }

pub stop_is : IsOp (codes "stop") (ops.Device devices.Stop)
unfolding op_of one_op two_op three_op other_op
stop_is = record { other = refl; plain = refl; means = refl }

pub li_is : IsOp (codes "li") ops.Li
unfolding op_of one_op two_op three_op other_op
li_is = record { other = refl; plain = refl; means = refl }

pub next_is : IsOp (codes "next") ops.Next
unfolding op_of one_op two_op three_op other_op
next_is = record { other = refl; plain = refl; means = refl }

pub done_is : IsOp (codes "done") ops.Done
unfolding op_of one_op two_op three_op other_op
done_is = record { other = refl; plain = refl; means = refl }
