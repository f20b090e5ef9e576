use Rattle.ink_modes.proofs.Common.{arith}
use Rattle.std.proofs.lemmas.List.{at_drop_all}
use Rattle.ink_base.proofs.Count.{more_lines, more_lines-is}
use Rattle.ink_modes.proofs.text.line_count.Goals as goal

pub returns : goal.returns
returns c =
    omega (arith, at_drop_all (more_lines c.loop-b.fresh) c.args.text.now c.loop-b.b-index (omega arith), more_lines-is c.args.text.now)
