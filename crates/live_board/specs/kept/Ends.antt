-- What the actors of a live board leave when all charges are over, and the record that is put together of it.
use Rattle.std.specs.Prelude.{◌≡◌, ℕ, ◌+◌, ◌<◌, ◌≤◌, List, length, slice_index, slice_index_or}
use mathlib.Core.Option.{some}
use lib.ListN.{get_elem?}
use Rattle.job_parts.specs.Job.{JobParts}
use Rattle.event_queue.specs.declared.seat.SourceSeat.{SourceSeat}
use Rattle.event_queue.specs.declared.set.QueueSet.{QueueSet}
use Rattle.event_queue.specs.Finishes.{Finished}
use Rattle.event_queue.specs.Seats.{clock_view, kernel_view, lay_in}
use Rattle.irq_source.specs.Acting.{Acting, IsAccounted}
use Rattle.kernel_actor.specs.Acting as kernel
use Rattle.kernel_actor.specs.Books.{charges_in}
use Rattle.kernel_actor.specs.declared.clock.ClockActor.{ClockActor}
use Rattle.live_account.specs.declared.record.LiveRecord.{LiveRecord}
use Rattle.live_board.specs.kept.Boards.{IsBoardAfter}
use Rattle.live_words.specs.Finals.{AreFinal}
use Rattle.queue_lists.specs.Gathers.{AreGathered}
use Rattle.queue_lists.specs.Lists.{Lists, lists_at}

-- a source leaves its seat, its SRC and its lists, which are its account, in place i
pub record IsLeftAt (a : Acting) (i : ℕ) (seats : List SourceSeat) (srcs : List ℕ) (lists : List Lists) : Type 0 where
  pub account : IsAccounted a
  pub few : length a.place.refused ≤ length a.readings + a.begun
  pub seat : get_elem? seats i ≡ some a.seat
  pub src : slice_index srcs i ≡ a.place.src
  pub listed : lists_at lists i ≡ record { accepted = a.place.accepted; refused = a.place.refused }

-- each of the first so many sources leaves its own in its place
pub record AreLeft (count : ℕ) (sources : List Acting) (seats : List SourceSeat) (srcs : List ℕ) (lists : List Lists) : Type 0 where
  pub seats_count : length seats ≡ count
  pub srcs_count : length srcs ≡ count
  pub lists_count : length lists ≡ count
  pub each : (i : ℕ) (a : Acting) → i < count → IsLeftAt (slice_index_or sources i a) i seats srcs lists

-- All charges of a board are over, its actors have left what they have, and the set of queues is closed.
pub record AreOver (job : JobParts) (set : QueueSet) (sources : List Acting) (k : kernel.Acting) (clock : ClockActor) : Type 0 where
  pub board : IsBoardAfter job set (length job.charges) sources k clock
  pub seats : List SourceSeat
  pub srcs : List ℕ
  pub lists : List Lists
  pub left : AreLeft (length sources) sources seats srcs lists
  pub closed : List ℕ
  pub finished : Finished (lay_in set) closed (kernel_view k.seat) (clock_view clock.seat) seats

-- A record is put together of it.
pub record IsFinish (job : JobParts) (set : QueueSet) (sources : List Acting) (k : kernel.Acting) (clock : ClockActor) (r : LiveRecord) : Type 0 where
  pub over : AreOver job set sources k clock
  pub job_is : r.job ≡ job
  pub gathered : AreGathered job.program over.lists r.accepted r.charges r.refused
  pub kernel : r.kernel ≡ charges_in k.book
  pub words : AreFinal job.program (lay_in set) k.words over.closed over.srcs r.words
