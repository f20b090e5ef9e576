use Rattle.ink_modes.proofs.Common.{arith}
use Rattle.ink_base.proofs.Sizes.{lines_le}
use Rattle.ink_modes.proofs.modes.audit.given.Goals as goal

pub overflow_add-result : goal.overflow_add-result
overflow_add-result c = omega (arith, c.requires, lines_le c.args.text.now, c.line_count.ensures)
