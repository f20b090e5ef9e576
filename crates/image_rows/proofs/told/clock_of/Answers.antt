use Rattle.image_checks.proofs.Tests.{refused}
use Rattle.image_rows.proofs.told.clock_of.Goals as goal

pub read_off-requires-clause-fresh : goal.read_off-requires-clause-fresh
read_off-requires-clause-fresh c = (c.args.listed.now, refused c.if-is_worn.ensures)
