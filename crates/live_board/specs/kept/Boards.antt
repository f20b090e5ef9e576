-- A live board, charge after charge.
use Rattle.std.specs.Prelude.{◌≡◌, ℕ, ◌+◌, ◌<◌, List, length, slice_index_or, take}
use Rattle.prog_check.specs.Lookup.{source_thread}
use Rattle.job_parts.specs.Job.{JobParts, IsJob}
use Rattle.event_queue.specs.declared.set.QueueSet.{QueueSet}
use Rattle.event_queue.specs.Seats.{lay_in, IsSeatOf, IsKernelSeatOf, IsClockSeatOf}
use Rattle.irq_source.specs.Acting.{Acting}
use Rattle.kernel_actor.specs.Acting as kernel
use Rattle.kernel_actor.specs.Books.{charges_in}
use Rattle.kernel_actor.specs.Lays.{IsLayOf}
use Rattle.kernel_actor.specs.declared.clock.ClockActor.{ClockActor}
use Rattle.live_account.specs.Queues.{places_for}
use Rattle.live_account.specs.Turns.{dark_ticks, lit_ticks}
use Rattle.live_board.specs.kept.Dates.{AreDated}
use Rattle.live_board.specs.kept.Kernels.{IsKernelAfter, calls}
use Rattle.live_board.specs.kept.Runs.{ticks}
use Rattle.live_board.specs.kept.Sources.{IsSourceAfter}

-- source i of a board when the first so many charges are over: its lists, and what they and the kernel's account tell of each other
pub record IsHereAfter (job : JobParts) (set : QueueSet) (i count : ℕ) (k : kernel.Acting) (a : Acting) : Type 0 where
  pub seat : IsSeatOf set a.seat
  pub after : IsSourceAfter job i count a
  pub dated : AreDated job.program (source_thread job.program i) (places_for job.program i) (calls k) (charges_in k.book) a.place.accepted a.place.refused

-- what holds of the actors when the first so many charges of a job are over
pub record IsBoardAfter (job : JobParts) (set : QueueSet) (count : ℕ) (sources : List Acting) (k : kernel.Acting) (clock : ClockActor) : Type 0 where
  pub is_job : IsJob job
  pub lay : IsLayOf job.program (lay_in set)
  pub number : length sources ≡ length job.program.sources
  pub each : (i : ℕ) (a : Acting) → i < length sources → IsHereAfter job set i count k (slice_index_or sources i a)
  pub kernel_seat : IsKernelSeatOf set k.seat
  pub kernel_after : IsKernelAfter job count k
  pub clock_seat : IsClockSeatOf set clock.seat
  pub passed : ticks clock ≡ dark_ticks (take count job.charges) + lit_ticks (take count job.charges)
