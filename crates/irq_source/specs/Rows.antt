-- Where rows of the table lead, their private word being SRC, and their shared accesses the calls of the seat.
use Rattle.std.specs.Prelude.{◌≡◌, ℕ, zero, suc, ◌+◌, ◌%◌, List, [], ◌∷◌, ◌++◌, ◌⊎◌, ◌≤◌, length, slice_index}
use mathlib.Core.Option.{some}
use lib.ListN.{get_elem?}
use Rattle.push_core.specs.declared.point.Point.{Point}
use Rattle.push_core.specs.declared.point.Point.TheVariants as points
use Rattle.push_core.specs.declared.port.Port.{Port}
use Rattle.push_core.specs.declared.row.Row.{Row}
use Rattle.push_core.specs.declared.stage.Stage.{Stage}
use Rattle.push_core.specs.declared.stage.Stage.TheVariants as stages
use Rattle.push_core.specs.Table.{IsLeft, point_of, take_of, src_word}
use Rattle.event_queue.specs.declared.view.Call.{Call}
use Rattle.event_queue.specs.declared.view.Call.TheVariants.{LoadTail, LoadSlot, LoadAck, Publish, HelpTail}
use Rattle.irq_source.specs.declared.lists.Published.{Published}
use Rattle.irq_source.specs.declared.lists.Declined.{Declined}

-- what the rows of a charge change: the row, SRC, the calls of the seat, the latest first, and the lists of published and refused readings
pub record Place : Type 0 where
  pub row : Row
  pub src : ℕ
  pub calls : List Call
  pub accepted : List Published
  pub refused : List Declined

-- the access of a row, which found this word: what it leaves of SRC, and the call that it was
abbrev pub Finds : Port → List ℕ → (a k src : ℕ) → Stage → ℕ → List Call → (src' : ℕ) → List Call → Type 0
Finds port readings a k src stages.LoadSrc w calls src' calls' = (w ≡ src) × (src' ≡ src) × (calls' ≡ calls)
Finds port readings a k src (stages.LoadSlots n seen) w calls src' calls' = (src' ≡ src) × (calls' ≡ LoadSlot n w ∷ calls)
Finds port readings a k src (stages.LoadAck seen) w calls src' calls' = (src' ≡ src) × (calls' ≡ LoadAck w ∷ calls)
Finds port readings a k src stages.LoadTail w calls src' calls' = (src' ≡ src) × (calls' ≡ LoadTail w ∷ calls)
Finds port readings a k src (stages.LoadSlot p) w calls src' calls' = (src' ≡ src) × (calls' ≡ LoadSlot (p % port.queue.places) w ∷ calls)
Finds port readings a k src (stages.Publish p) w calls src' calls' = (src' ≡ src) × (calls' ≡ Publish p k (slice_index readings k) w ∷ calls)
Finds port readings a k src (stages.MoveTail p) w calls src' calls' = (src' ≡ src) × (calls' ≡ HelpTail p w ∷ calls)
Finds port readings a k src (stages.HelpTail p) w calls src' calls' = (src' ≡ src) × (calls' ≡ HelpTail p w ∷ calls)
Finds port readings a k src stages.StoreSkip w calls src' calls' = (src' ≡ src_word a (k + 1)) × (calls' ≡ calls)
Finds port readings a k src stages.StoreAccepted w calls src' calls' = (src' ≡ src_word (a + 1) (k + 1)) × (calls' ≡ calls)

-- the tail that a row tries
abbrev pub tail_in : Stage → ℕ
tail_in (stages.LoadSlot p) = p
tail_in (stages.Publish p) = p
tail_in stage = 0

-- what an access adds to the published readings: the row's reading, where it was pushed
abbrev pub accepts : (charge position reading value : ℕ) → Point → List Published
accepts charge position reading value points.Pushed = record { position = position; reading = reading; value = value; charge = charge } ∷ []
accepts charge position reading value point = []

-- what it adds to the refused readings: the row's reading, where its load showed that the queue was full
abbrev pub declines : (charge position reading : ℕ) → Point → List Declined
declines charge position reading points.Refused = record { reading = reading; position = position; charge = charge } ∷ []
declines charge position reading point = []

-- one row in a charge, where one is left: its access found a word, and the row that follows is the table's for it
pub record LeadsOne (port : Port) (readings : List ℕ) (charge : ℕ) (old new : Place) : Type 0 where
  pub left : IsLeft (length readings) old.row
  pub word : ℕ
  pub found : Finds port readings old.row.accepted old.row.next old.src old.row.stage word old.calls new.src new.calls
  pub row : new.row ≡ take_of port (length readings) old.row word
  pub accepted : new.accepted ≡ old.accepted ++ accepts charge (tail_in old.row.stage) old.row.next (slice_index readings old.row.next) (point_of port.queue.places old.row.stage word)
  pub refused : new.refused ≡ old.refused ++ declines charge (tail_in old.row.stage) old.row.next (point_of port.queue.places old.row.stage word)

-- so many rows in a charge
abbrev pub Leads : Port → List ℕ → (charge : ℕ) → ℕ → Place → Place → Type 0
Leads port readings charge zero old new = new ≡ old
Leads port readings charge (suc n) old new = (middle : Place) × Leads port readings charge n old middle × LeadsOne port readings charge middle new

-- What accesses in a charge add to the lists: nothing is taken out or changed, and each entry that is added names the charge. A refusal that is
-- added is at a position that lies a turn of the ring above one that was not known to be released
pub record Grows (places gone charge : ℕ) (old new : Place) : Type 0 where
  pub accepted_kept : (n : ℕ) (p : Published) → get_elem? old.accepted n ≡ some p → get_elem? new.accepted n ≡ some p
  pub refused_kept : (n : ℕ) (d : Declined) → get_elem? old.refused n ≡ some d → get_elem? new.refused n ≡ some d
  pub accepted : (n : ℕ) (p : Published) → get_elem? new.accepted n ≡ some p → (get_elem? old.accepted n ≡ some p) ⊎ (p.charge ≡ charge)
  pub refused : (n : ℕ) (d : Declined) → get_elem? new.refused n ≡ some d → (get_elem? old.refused n ≡ some d) ⊎ ((d.charge ≡ charge) × (gone + places ≤ d.position))
