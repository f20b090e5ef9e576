-- What the sources of a board leave at the end, and the record that has their lists put together.
use Rattle.std.specs.Prelude.{◌≡◌, ◌⊎◌, ℕ, ◌+◌, ◌<◌, ◌≤◌, List, length, slice_index, take}
use mathlib.Core.Option.{some}
use lib.ListN.{get_elem?}
use Rattle.fram_words.specs.Places.{Src}
use Rattle.prog_check.specs.Lookup.{source_thread}
use Rattle.never_cut.specs.Entries.{readings_of}
use Rattle.job_parts.specs.Job.{JobParts}
use Rattle.kernel_account.specs.declared.entry.KernelEntry.{KernelEntry}
use Rattle.event_queue.specs.declared.seat.SourceSeat.{SourceSeat}
use Rattle.event_queue.specs.declared.view.Lay.{Lay}
use Rattle.event_queue.specs.Calls.{Knows}
use Rattle.event_queue.specs.Seats.{view}
use Rattle.event_queue.specs.Views.{queue_of}
use Rattle.irq_source.specs.declared.lists.Declined.{Declined}
use Rattle.irq_source.specs.declared.lists.Published.{Published}
use Rattle.irq_source.specs.Acting.{Acting, IsAccounted}
use Rattle.irq_source.specs.Known.{settled_of}
use Rattle.irq_source.specs.Pace.{KnowsOthers, enough_for}
use Rattle.live_account.specs.declared.record.LiveRecord.{LiveRecord}
use Rattle.live_account.specs.Queues.{ListsTurn, places_for, releases_of, words_at}
use Rattle.live_account.specs.Turns.{charge_at, source, turns_for}
use Rattle.queue_lists.specs.Gathers.{AreGathered}
use Rattle.queue_lists.specs.Lists.{Lists, lists_at}

-- An actor leaves this seat, this SRC and these lists as source i of the job, all of whose charges have begun. They are its account. A reading was refused
-- to it once for each reading and once for each charge at most. The seat is one of the board's.
pub record IsEndOf (job : JobParts) (lay : Lay) (seats : List SourceSeat) (i src : ℕ) (lists : Lists) : Type 0 where
  pub actor : Acting
  pub account : IsAccounted actor
  pub few : length actor.place.refused ≤ length actor.readings + actor.begun
  pub readings : actor.readings ≡ readings_of job.readings i
  pub begun : actor.begun ≡ length job.charges
  pub source : actor.seat.source.0 ≡ i
  pub board : (view actor.seat).lay ≡ lay
  pub place : ℕ
  pub seat : get_elem? seats place ≡ some actor.seat
  pub src_is : actor.place.src ≡ src
  pub lists_are : record { accepted = actor.place.accepted; refused = actor.place.refused } ≡ lists

-- The board has a queue for each thread and the job's sources, each with its own queue, and each source has an end.
pub record AreEndsOf (job : JobParts) (lay : Lay) (seats : List SourceSeat) (srcs : List ℕ) (lists : List Lists) : Type 0 where
  pub queues : length lay.queues ≡ length job.program.threads
  pub sources : length lay.sources ≡ length job.program.sources
  pub queue : (i : ℕ) → i < length job.program.sources → queue_of lay i ≡ source_thread job.program i
  pub number : length lists ≡ length job.program.sources
  pub each : (i : ℕ) → i < length job.program.sources → IsEndOf job lay seats i (slice_index srcs i) (lists_at lists i)

-- The record has these lists, put together, and each SRC among its words.
pub record IsGathered (job : JobParts) (r : LiveRecord) (srcs : List ℕ) (lists : List Lists) : Type 0 where
  pub gathered : AreGathered job.program lists r.accepted r.charges r.refused
  pub words : (i : ℕ) → i < length job.program.sources → words_at job.program r (Src i) ≡ slice_index srcs i

-- each published reading names a charge that lists a turn of the source
abbrev pub PublishInTurns : JobParts → (i : ℕ) → Lists → Type 0
PublishInTurns job i lists = (n : ℕ) (p : Published) → get_elem? lists.accepted n ≡ some p → ListsTurn job i p.charge

-- A refused reading names a charge that lists a turn of the source. In the charges before it the kernel released at most the positions that lie a turn of
-- the ring or more below that of the refusal.
pub record IsRefusedInTurn (job : JobParts) (kernel : List (List KernelEntry)) (i : ℕ) (d : Declined) : Type 0 where
  pub charge : ListsTurn job i d.charge
  pub released : releases_of (source_thread job.program i) (take d.charge kernel) + places_for job.program i ≤ d.position

-- so does each refused reading
abbrev pub RefuseInTurns : JobParts → List (List KernelEntry) → (i : ℕ) → Lists → Type 0
RefuseInTurns job kernel i lists = (n : ℕ) (d : Declined) → get_elem? lists.refused n ≡ some d → IsRefusedInTurn job kernel i d

-- reading k was published or refused in charge c or an earlier one
abbrev pub IsSettledBy : Lists → (k c : ℕ) → Type 0
IsSettledBy lists k c =
    ((n : ℕ) × (p : Published) × (get_elem? lists.accepted n ≡ some p) × (p.reading ≡ k) × (p.charge ≤ c))
    ⊎ ((n : ℕ) × (d : Declined) × (get_elem? lists.refused n ≡ some d) × (d.reading ≡ k) × (d.charge ≤ c))

-- A charge with enough turns settles the first m readings of the source, or all, if earlier ones haven't. How many turns are enough goes by how many of the
-- positions that the source knows to be published are not its own.
abbrev pub SettlesInTime : JobParts → (i src : ℕ) → Knows → Lists → Type 0
SettlesInTime job i src s lists =
    (c m k others : ℕ) → c < length job.charges → KnowsOthers others s → enough_for (places_for job.program i) others m ≤ turns_for (source i) (charge_at job.charges c) →
    k < m → k < length (readings_of job.readings i) → (k < settled_of src s) × IsSettledBy lists k c
