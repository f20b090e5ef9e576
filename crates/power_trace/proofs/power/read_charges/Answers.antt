use Rattle.power_trace.proofs.Common.{arith, count_le, tokens_le}
use Rattle.power_trace.proofs.power.read_charges.Goals as goal

pub power-requires : goal.power-requires
power-requires c = omega (arith, c.requires.short, count_le c.args.text.now c.args.tokens.now.list.items c.args.tokens.now.lines c.requires.tokens)

pub index_of-requires-clause-few : goal.index_of-requires-clause-few
index_of-requires-clause-few c = omega (arith, c.requires.short, tokens_le c.args.text.now c.args.tokens.now.list.items c.args.tokens.now.lines c.requires.tokens)
