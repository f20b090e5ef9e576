use Rattle.queue_rows.proofs.Common.{rules}
use Rattle.queue_rows.proofs.Queues.{one_queue_is}
use Rattle.queue_rows.proofs.tests.opening.one_queue.Goals as goal

pub returns : goal.returns
returns c = one_queue_is _ _ c.args.queue c.args.number (search rules) (search rules)
