-- So many rows lead from where the charge was.
use Rattle.std.proofs.Common.{◌≡◌, ◌+◌, ◌≤◌, true}
use Rattle.event_queue.specs.Seats.{kernel_view, IsKernelSeatOf}
use Rattle.kernel_actor.specs.Acting.{IsSame, place_of}
use Rattle.kernel_actor.specs.Rows.{Leads}
use Rattle.kernel_actor.specs.Served.{KeepsSeen}
use Rattle.kernel_actor.specs.Timely.{AddsTimely}
use Rattle.kernel_actor.proofs.actor.KernelActor.run_charge.Given as goal

abbrev pub invariant-loop : goal.invariant-loop
invariant-loop g l =
    IsKernelSeatOf l.set l.self.seat × IsSame l.initial.self l.self × Leads l.initial.self.program l.counter (place_of l.initial.self) (place_of l.self) × (l.self.book.begun ≡ true)
    × (l.initial.self.left ≡ l.self.left + l.counter) × (l.initial.self.book.spare ≤ l.self.book.spare + l.counter)
    × AddsTimely (kernel_view l.initial.self.seat).told l.initial.self.book.entries l.self.book.entries
    × KeepsSeen l.initial.self.program l.initial.self.book.done (place_of l.initial.self) (place_of l.self)
