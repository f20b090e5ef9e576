use Rattle.queue_rows.proofs.Common.{rules, IsSeatOf}
use Rattle.queue_rows.proofs.Queues.{all_back}
use Rattle.queue_rows.proofs.tests.five_at_once.Goals as goal

pub finish-closed-requires-clause-sources : goal.finish-closed-requires-clause-sources
finish-closed-requires-clause-sources g c =
    let done = c.all_at_once-released in
    all_back (IsSeatOf c.in_ok-set.set) c.in_ok-set.seats.len done.new.seats c.in_ok-set.seats.items (search rules) (search rules) done.ensures.seats
