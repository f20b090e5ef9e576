use Rattle.queue_lists.proofs.Queues.{every_list_tells, every_number_tells, every_source_tells, every_account_tells}
use Rattle.queue_lists.proofs.laws.queues_are_accounted.Goals as goal

pub returns : goal.returns
returns c = record { events = every_list_tells; numbers = every_number_tells; sources = every_source_tells; readings = every_account_tells }
