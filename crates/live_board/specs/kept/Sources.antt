-- A source of a live board, charge after charge.
use Rattle.std.specs.Prelude.{◌≡◌, ◌⊎◌, ℕ, ◌+◌, ◌-◌, ◌<◌, ◌≤◌, List, length, map}
use mathlib.Core.Option.{some}
use lib.ListN.{get_elem?}
use Rattle.push_core.specs.Table.{first_row}
use Rattle.never_cut.specs.Entries.{readings_of}
use Rattle.job_parts.specs.Job.{JobParts}
use Rattle.event_queue.specs.declared.set.QueueSet.{QueueSet}
use Rattle.event_queue.specs.Seats.{IsSeatOf}
use Rattle.irq_source.specs.declared.lists.Published.{Published}
use Rattle.irq_source.specs.declared.lists.Declined.{Declined}
use Rattle.irq_source.specs.Account.{publication}
use Rattle.irq_source.specs.Acting.{Acting, IsSame, IsAccounted, knows}
use Rattle.irq_source.specs.Known.{Added, KnowsItsPlace, settled_of}
use Rattle.irq_source.specs.Pace.{enough_for, KnowsOthers, SettlesEnough}
use Rattle.irq_source.specs.Rows.{Grows, Leads}
use Rattle.push_core.specs.Table.{phase_of, IsSettled}
use Rattle.live_account.specs.Queues.{ListsTurn, places_for}
use Rattle.live_account.specs.Turns.{source, turns_for, charge_at}

-- each published and each refused reading names a charge that lists a turn of source i
pub record AreInTurns (job : JobParts) (i : ℕ) (accepted : List Published) (refused : List Declined) : Type 0 where
  pub published : (n : ℕ) (p : Published) → get_elem? accepted n ≡ some p → ListsTurn job i p.charge
  pub declined : (n : ℕ) (d : Declined) → get_elem? refused n ≡ some d → ListsTurn job i d.charge

-- reading k was published or refused in charge c or an earlier one
abbrev pub SettledIn : List Published → List Declined → (k c : ℕ) → Type 0
SettledIn accepted refused k c =
    ((n : ℕ) × (p : Published) × (get_elem? accepted n ≡ some p) × (p.reading ≡ k) × (p.charge ≤ c))
    ⊎ ((n : ℕ) × (d : Declined) × (get_elem? refused n ≡ some d) × (d.reading ≡ k) × (d.charge ≤ c))

-- with enough turns in one of the first so many charges the first m readings, or all, are settled in it or before
abbrev pub SettlesInTime : JobParts → (i count : ℕ) → Acting → Type 0
SettlesInTime job i count a =
    (c m others k : ℕ) → c < count → enough_for a.port.queue.places others m ≤ turns_for (source i) (charge_at job.charges c) → KnowsOthers others (knows a) → k < m →
    k < length a.readings → (k < settled_of a.place.src (knows a)) × SettledIn a.place.accepted a.place.refused k c

-- what holds of source i when the first so many charges are over
pub record IsSourceAfter (job : JobParts) (i count : ℕ) (a : Acting) : Type 0 where
  pub begun : a.begun ≡ count
  pub charges : a.charges ≡ length job.charges
  pub port : a.port.source.0 ≡ i
  pub source : a.seat.source.0 ≡ i
  pub places : a.port.queue.places ≡ places_for job.program i
  pub readings : a.readings ≡ readings_of job.readings i
  pub listed : map publication a.place.accepted ≡ (knows a).mine
  pub turns : AreInTurns job i a.place.accepted a.place.refused
  pub settles : SettlesInTime job i count a

-- the same source with the same lists, whose seat has made no call; it may have been told more
pub record IsStill (old new : Acting) : Type 0 where
  pub same : IsSame old new
  pub source : new.seat.source ≡ old.seat.source
  pub src : new.place.src ≡ old.place.src
  pub accepted : new.place.accepted ≡ old.place.accepted
  pub refused : new.place.refused ≡ old.place.refused
  pub mine : (knows new).mine ≡ (knows old).mine
  pub next : (knows new).next ≡ (knows old).next
  pub out : (knows old).out ≤ (knows new).out
  pub gone : (knows old).gone ≤ (knows new).gone

-- its next charge has begun: its table begins again, and it has heard that so many positions of its queue are published and released
pub record HasBegun (out gone : ℕ) (old new : Acting) : Type 0 where
  pub still : IsStill old new
  pub begun : new.begun ≡ old.begun + 1
  pub row : new.place.row ≡ first_row
  pub published : out ≤ (knows new).out
  pub released : gone ≤ (knows new).gone

-- it has made accesses of a charge with this budget
pub record HasRun (budget : ℕ) (old new : Acting) : Type 0 where
  pub same : IsSame old new
  pub begun : new.begun ≡ old.begun
  pub steps : ℕ
  pub few : steps ≤ budget
  pub leads : Leads old.port old.readings (old.begun - 1) steps old.place new.place
  pub added : Added (knows old) (knows new)
  pub settles : settled_of old.place.src (knows old) ≤ settled_of new.place.src (knows new)
  pub booted : KnowsItsPlace (phase_of new.place.row.stage) new.place.row.accepted new.place.row.next new.place.src (knows new)
  pub grows : Grows old.port.queue.places (knows old).gone (old.begun - 1) old.place new.place
  pub account : IsAccounted new
  pub enough : SettlesEnough old.port.queue.places (length old.readings) budget old.place new.place (knows new)
