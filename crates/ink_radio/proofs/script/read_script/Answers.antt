use Rattle.std.proofs.Common.{arith}
use Rattle.ink_base.proofs.Sizes.{count_le}
use Rattle.ink_radio.proofs.script.read_script.Goals as goal

pub events-requires : goal.events-requires
events-requires c = omega (arith, c.requires.short, count_le c.args.text.now c.args.tokens.now.list.items c.args.tokens.now.lines c.requires.tokens)
