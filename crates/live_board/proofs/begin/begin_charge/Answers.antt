use Rattle.std.proofs.Common.{◌≡◌, length}
use Rattle.event_queue.specs.Seats.{kernel_view}
use Rattle.event_queue.specs.Views.{calls_of}
use Rattle.event_queue.specs.declared.seat.KernelSeat.{KernelSeat}
use Rattle.live_board.specs.kept.Kernels.{calls}
use Rattle.live_board.proofs.Begins.{kernel_hearing, knows_still, knows_uncut, sources_begin}
use Rattle.live_board.proofs.begin.begin_charge.Goals as goal

pub returns-clause-told : goal.returns-clause-told
returns-clause-told c =
    let heard = kernel_hearing c.args.set.now c.note-note.result c.tell_kernel.new.kernel c.hear.new.self c.tell_kernel.ensures.kernel.seat c.hear.ensures.beside c.hear.ensures.kernel c.hear.ensures.book c.hear.ensures.seat in
    let n = length c.args.sources.now in
    let knew = knows_uncut c.args.set.now c.tell_kernel.new.kernel c.args.sources.now c.cut_sources.new.sources c.cut_sources.ensures c.tell_kernel.ensures.told in
    knows_still c.args.set.now c.hear.new.self c.tell_sources.new.kernel n c.args.sources.now c.tell_sources.ensures.kernel
    (knows_still c.args.set.now c.tell_kernel.new.kernel c.hear.new.self n c.args.sources.now heard knew)
