-- The actor stands before its first charge.
use Rattle.std.proofs.Common.{arith}
use Rattle.event_queue.specs.Seats.{kernel_view}
use Rattle.kernel_actor.proofs.Acting.{first_now}
use Rattle.kernel_actor.proofs.actor.KernelActor.new.Goals as goal

pub invariant_of-result : goal.invariant_of-result
invariant_of-result c = (
  first_now c.args.plan.accepted c.args.plan.layout c.in_ok-fram.fram c.boot.result (kernel_view c.args.seat) c.in_ok-book.book c.program-program.ensures.accepted c.program-program.ensures.layout c.requires.lay
      c.in_ok-fram.ensures c.requires.calls c.boot.ensures.begun c.in_ok-book.ensures.done c.in_ok-book.ensures.begun,
  omega arith,
)
