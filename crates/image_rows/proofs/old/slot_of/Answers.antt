use Rattle.image_checks.proofs.Tests.{refused}
use Rattle.image_rows.proofs.old.slot_of.Goals as goal

pub renew-requires-clause-fresh : goal.renew-requires-clause-fresh
renew-requires-clause-fresh c = (c.args.listed.now, refused c.if-is_worn_old.ensures)
