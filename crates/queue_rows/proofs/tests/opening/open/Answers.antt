use Rattle.queue_rows.proofs.Queues.{opened_sources}
use Rattle.queue_rows.proofs.tests.opening.open.Goals as goal

pub returns-clause-sources : goal.returns-clause-sources
returns-clause-sources c = opened_sources _ _ _ _ _ c.in_ok-set.ensures.shape c.in_ok-shape.ensures c.in_ok-set.ensures.sources.1
