use Rattle.queue_rows.proofs.Common.{kernel_view}
use Rattle.queue_rows.proofs.Carries.{source_hears}
use Rattle.queue_rows.proofs.tests.carrying.tell_source.Goals as goal

pub returns-clause-count : goal.returns-clause-count
returns-clause-count c = source_hears c.args.set.now (kernel_view c.args.kernel.now) c.note-note.result c.args.source.now c.hear.new.self c.note-note.ensures.note c.hear.ensures c.requires.queue c.requires.thread
