use Rattle.queue_rows.proofs.Common.{rules, IsSeatOf}
use Rattle.queue_rows.proofs.Queues.{all_back}
use Rattle.queue_rows.proofs.tests.kinds.words_after.Goals as goal

pub finish-requires-clause-sources : goal.finish-requires-clause-sources
finish-requires-clause-sources g c =
    let done = c.all_source_steps in
    all_back (IsSeatOf c.in_ok-set.set) c.in_ok-set.seats.len done.new.seats c.in_ok-set.seats.items (search rules) (search rules) done.ensures.seats
