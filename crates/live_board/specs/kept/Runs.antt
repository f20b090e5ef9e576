-- What actors do in a charge.
use Rattle.std.specs.Prelude.{◌≡◌, ℕ, ◌+◌, ◌<◌, ◌≤◌, ◌^◌, true, List, length, slice_index_or}
use Rattle.job_parts.specs.declared.charge.Charge.{Charge}
use Rattle.event_queue.specs.declared.set.QueueSet.{QueueSet}
use Rattle.event_queue.specs.Calls.{sum_of}
use Rattle.event_queue.specs.Seats.{clock_view, IsSeatOf, IsKernelSeatOf, IsClockSeatOf, IsSameClockSeat}
use Rattle.event_queue.specs.Views.{calls_of}
use Rattle.irq_source.specs.Acting.{Acting}
use Rattle.kernel_actor.specs.Acting as kernel
use Rattle.kernel_actor.specs.declared.clock.ClockActor.{ClockActor}
use Rattle.live_account.specs.Turns.{source, turns_for}
use Rattle.live_board.specs.kept.Begins.{queue}
use Rattle.live_board.specs.kept.Sources.{HasRun}
use Rattle.live_board.specs.kept.Kernels.{HasRun as HasKernelRun}

-- a source of the set in one of its charges
pub record CanRun (set : QueueSet) (a : Acting) : Type 0 where
  pub seat : IsSeatOf set a.seat
  pub begun : 0 < a.begun

-- each source is
abbrev pub CanAllRun : QueueSet → List Acting → Type 0
CanAllRun set sources = (i : ℕ) (a : Acting) → i < length sources → CanRun set (slice_index_or sources i a)

-- what a source does with a budget
pub record SourceRuns (set : QueueSet) (budget : ℕ) (old new : Acting) : Type 0 where
  pub seat : IsSeatOf set new.seat
  pub ran : HasRun budget old new

-- each source makes the accesses of the turns that the charge lists for it
pub record EachRuns (set : QueueSet) (charge : Charge) (old new : List Acting) : Type 0 where
  pub size : length new ≡ length old
  pub each : (i : ℕ) (a : Acting) → i < length old → SourceRuns set (turns_for (source i) charge) (slice_index_or old i a) (slice_index_or new i a)

-- the kernel in one of its charges, which has room for so many entries more
pub record KernelCanRun (set : QueueSet) (budget : ℕ) (a : kernel.Acting) : Type 0 where
  pub seat : IsKernelSeatOf set a.seat
  pub begun : a.book.begun ≡ true
  pub left : budget ≤ a.left
  pub room : budget ≤ a.book.spare

-- what the kernel does with a budget
pub record KernelRuns (set : QueueSet) (budget : ℕ) (old new : kernel.Acting) : Type 0 where
  pub seat : IsKernelSeatOf set new.seat
  pub ran : HasKernelRun budget old new

-- the sum of all that the clock has added
abbrev pub ticks : ClockActor → ℕ
ticks c = sum_of (calls_of (clock_view c.seat))

-- the clock can go on by so many ticks
pub record ClockCanRun (set : QueueSet) (budget : ℕ) (c : ClockActor) : Type 0 where
  pub seat : IsClockSeatOf set c.seat
  pub sum : ticks c + budget < 2 ^ 47

-- it has gone on by so many
pub record ClockRuns (budget : ℕ) (old new : ClockActor) : Type 0 where
  pub seat : IsSameClockSeat old.seat new.seat
  pub sum : ticks new ≡ ticks old + budget
