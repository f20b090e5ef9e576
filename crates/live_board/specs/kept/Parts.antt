-- A live board before its first charge.
use Rattle.std.specs.Prelude.{◌≡◌, ℕ, ◌≤◌, List, [], length, slice_index_or, vec_capacity}
use mathlib.Core.Option.{some}
use lib.ListN.{get_elem?}
use Rattle.task_isa.specs.declared.program.Program.{Program}
use Rattle.never_cut.specs.Entries.{readings_of}
use Rattle.job_parts.specs.Job.{JobParts}
use Rattle.event_queue.specs.declared.seat.SourceSeat.{SourceSeat}
use Rattle.event_queue.specs.Seats.{view}
use Rattle.event_queue.specs.Views.{calls_of}
use Rattle.irq_source.specs.Acting.{Acting, first_place}
use Rattle.kernel_actor.specs.Lays.{IsLayOf}
use Rattle.live_account.specs.Queues.{places_for}
use Rattle.queue_lists.specs.Rooms.{IsRoomOf}
use Rattle.live_board.specs.declared.parts.LiveRoom.{LiveRoom}

-- room for what all sources of a job leave, none of which has left anything, and for the lists of the job's record
pub record IsLiveRoomOf (job : JobParts) (room : LiveRoom) : Type 0 where
  pub seats : (room.seats.items ≡ []) × (length job.program.sources ≤ vec_capacity room.seats)
  pub srcs : (room.srcs.items ≡ []) × (length job.program.sources ≤ vec_capacity room.srcs)
  pub ends : (room.ends.items ≡ []) × (length job.program.sources ≤ vec_capacity room.ends)
  pub lists : IsRoomOf job room.lists

-- the seat of source i at the queues of a program, which has made no call
pub record IsFirstSeat (program : Program) (i : ℕ) (s : SourceSeat) : Type 0 where
  pub source : s.source.0 ≡ i
  pub calls : calls_of (view s) ≡ []
  pub lay : IsLayOf program (view s).lay

-- the seats of all sources in their order
pub record AreFirstSeats (program : Program) (seats : List SourceSeat) : Type 0 where
  pub number : length seats ≡ length program.sources
  pub each : (i : ℕ) (s : SourceSeat) → get_elem? seats i ≡ some s → IsFirstSeat program i s

-- source i of a job with its seat, before its first charge
pub record IsFirstSource (job : JobParts) (i : ℕ) (s : SourceSeat) (a : Acting) : Type 0 where
  pub seat : a.seat ≡ s
  pub place : a.place ≡ first_place
  pub begun : a.begun ≡ 0
  pub charges : a.charges ≡ length job.charges
  pub port : a.port.source.0 ≡ i
  pub places : a.port.queue.places ≡ places_for job.program i
  pub readings : a.readings ≡ readings_of job.readings i

-- the sources with these seats
pub record AreFirstSources (job : JobParts) (seats : List SourceSeat) (sources : List Acting) : Type 0 where
  pub number : length sources ≡ length seats
  pub each : (i : ℕ) (s : SourceSeat) (a : Acting) → get_elem? seats i ≡ some s → IsFirstSource job i s (slice_index_or sources i a)
