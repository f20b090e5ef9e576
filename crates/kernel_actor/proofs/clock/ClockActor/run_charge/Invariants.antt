-- So many ticks were made.
use Rattle.std.proofs.Common.{◌≡◌, ◌+◌}
use Rattle.event_queue.specs.Calls.{sum_of}
use Rattle.event_queue.specs.Seats.{clock_view, IsClockSeatOf, IsSameClockSeat}
use Rattle.event_queue.specs.Views.{calls_of}
use Rattle.kernel_actor.specs.Ticks.{ticked}
use Rattle.kernel_actor.proofs.clock.ClockActor.run_charge.Given as goal

abbrev pub invariant-loop : goal.invariant-loop
invariant-loop l =
    IsClockSeatOf l.set l.self.seat × IsSameClockSeat l.initial.self.seat l.self.seat × (calls_of (clock_view l.self.seat) ≡ ticked l.counter (calls_of (clock_view l.initial.self.seat)))
    × (sum_of (calls_of (clock_view l.self.seat)) ≡ sum_of (calls_of (clock_view l.initial.self.seat)) + l.counter)
