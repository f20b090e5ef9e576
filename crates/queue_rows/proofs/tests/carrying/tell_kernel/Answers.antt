use Rattle.queue_rows.proofs.Carries.{kernel_hears}
use Rattle.queue_rows.proofs.tests.carrying.tell_kernel.Goals as goal

pub returns : goal.returns
returns c = record { count = kernel_hears c.args.set.now c.args.source.now c.note-note.result c.args.kernel.now c.hear.new.self c.note-note.ensures.note c.hear.ensures c.requires.queue }
