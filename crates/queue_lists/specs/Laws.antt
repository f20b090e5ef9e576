-- What the lists of a record tell that are put together from those of its sources.
use Rattle.std.specs.Prelude.{◌≡◌, ℕ, ◌<◌, List, length, slice_index}
use Rattle.prog_check.specs.Lookup.{source_thread}
use Rattle.never_cut.specs.Entries.{readings_of}
use Rattle.job_parts.specs.Job.{JobParts}
use Rattle.event_queue.specs.declared.seat.SourceSeat.{SourceSeat}
use Rattle.event_queue.specs.declared.view.Call.{Call}
use Rattle.event_queue.specs.declared.view.Lay.{Lay}
use Rattle.event_queue.specs.declared.view.View.{View}
use Rattle.event_queue.specs.Calls.{acked_of, mine_of, released_of}
use Rattle.event_queue.specs.Finishes.{Finished}
use Rattle.event_queue.specs.Places.{Ack, word_at}
use Rattle.irq_source.specs.Account.{IsWithin}
use Rattle.irq_source.specs.Acting.{knows}
use Rattle.live_account.specs.declared.record.LiveRecord.{LiveRecord}
use Rattle.live_account.specs.Kernel.{events_in}
use Rattle.live_account.specs.Matches.{AreOf}
use Rattle.live_account.specs.Queues.{AreEvents, AreRefusals, Settles, accepted_in, events_from}
use Rattle.queue_lists.specs.Accounts.{TellsNumbers}
use Rattle.queue_lists.specs.Ends.{AreEndsOf, IsGathered, PublishInTurns, RefuseInTurns, SettlesInTime}
use Rattle.queue_lists.specs.Gathers.{HavePlaces, HaveRoom}
use Rattle.queue_lists.specs.Lists.{Lists, lists_at}
use Rattle.queue_lists.specs.Rooms.{IsRoomOf, Rooms}
use Rattle.queue_lists.specs.Tellings.{IsAccountOver}

-- A set of queues is closed, and these are the ends of a job's sources.
pub record AreEnds (job : JobParts) (srcs : List ℕ) (lists : List Lists) : Type 0 where
  pub lay : Lay
  pub words : List ℕ
  pub kernel : View
  pub clock : View
  pub seats : List SourceSeat
  pub finished : Finished lay words kernel clock seats
  pub ends : AreEndsOf job lay seats srcs lists

-- The lists of the ends can be put together in the room of the job.
abbrev pub EveryEndFits : Type 0
EveryEndFits = (job : JobParts) (srcs : List ℕ) (lists : List Lists) (rooms : Rooms) → AreEnds job srcs lists → IsRoomOf job rooms → HavePlaces job.program lists × HaveRoom job.program lists rooms

-- The lists and SRC of each end are its source's account.
abbrev pub EveryAccountIsOver : Type 0
EveryAccountIsOver = (job : JobParts) (srcs : List ℕ) (lists : List Lists) (e : AreEnds job srcs lists) (i : ℕ) (known : i < length job.program.sources) →
    IsAccountOver (e.finished.entries (source_thread job.program i)) (e.finished.calls.source i) (e.ends.each i known).actor.port.queue.places (length job.charges) (slice_index srcs i)
    (readings_of job.readings i) (lists_at lists i).accepted (lists_at lists i).refused

-- What SRC, ACK and the events of the record tell of source i: how many readings it has accepted and settled. Its events are its publications, no more than
-- it has settled, and no more are settled than it has.
pub record IsNumbered (job : JobParts) (r : LiveRecord) (kernel mine : List Call) (i src ack : ℕ) : Type 0 where
  pub tells : TellsNumbers i src ack (events_in r (source_thread job.program i)) (released_of (source_thread job.program i) kernel) (acked_of (source_thread job.program i) kernel) (events_from job.program r i)
  pub published : events_from job.program r i ≡ length (mine_of mine)
  pub within : IsWithin (length (readings_of job.readings i)) src (events_from job.program r i)

-- so it is of each source
abbrev pub EveryEndIsNumbered : Type 0
EveryEndIsNumbered = (job : JobParts) (r : LiveRecord) (srcs : List ℕ) (lists : List Lists) (e : AreEnds job srcs lists) → IsGathered job r srcs lists → (i : ℕ) → i < length job.program.sources →
    IsNumbered job r e.finished.calls.kernel (e.finished.calls.source i) i (slice_index srcs i) (word_at e.lay e.words (Ack i))

-- Each queue of the record has the entries of its queue.
abbrev pub EveryQueueIsOfItsEntries : Type 0
EveryQueueIsOfItsEntries = (job : JobParts) (r : LiveRecord) (srcs : List ℕ) (lists : List Lists) (e : AreEnds job srcs lists) → IsGathered job r srcs lists → (t : ℕ) → t < length job.program.threads →
    AreOf (e.finished.entries t) (accepted_in r t)

-- Its events are right, where the sources publish in their turns.
abbrev pub EveryEventIsRight : Type 0
EveryEventIsRight = (job : JobParts) (r : LiveRecord) (srcs : List ℕ) (lists : List Lists) → AreEnds job srcs lists → IsGathered job r srcs lists →
    ((i : ℕ) → i < length job.program.sources → PublishInTurns job i (lists_at lists i)) → (t : ℕ) → t < length job.program.threads → AreEvents job r t

-- Its refusals are right, where they are in turns.
abbrev pub EveryRefusalIsRight : Type 0
EveryRefusalIsRight = (job : JobParts) (r : LiveRecord) (srcs : List ℕ) (lists : List Lists) → AreEnds job srcs lists → IsGathered job r srcs lists →
    ((i : ℕ) → i < length job.program.sources → RefuseInTurns job r.kernel i (lists_at lists i)) → AreRefusals job r

-- Each source has settled its readings, where it settles them in time.
abbrev pub EverySourceSettles : Type 0
EverySourceSettles = (job : JobParts) (r : LiveRecord) (srcs : List ℕ) (lists : List Lists) (e : AreEnds job srcs lists) → IsGathered job r srcs lists →
    ((i : ℕ) (known : i < length job.program.sources) → SettlesInTime job i (slice_index srcs i) (knows (e.ends.each i known).actor) (lists_at lists i)) →
    (i : ℕ) → i < length job.program.sources → Settles job r i
