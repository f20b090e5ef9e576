-- No opcode is above 29.
use Rattle.task_isa.proofs.Common.{sym, arith}
use Rattle.task_isa.proofs.Codes.{form_of_above}
use Rattle.task_isa.proofs.code.form.Goals as goal

pub returns-in-30-to-255 : goal.returns-in-30-to-255
returns-in-30-to-255 c = sym (form_of_above c.args.op c.args.a c.args.b c.args.c c.args.i (omega arith))
