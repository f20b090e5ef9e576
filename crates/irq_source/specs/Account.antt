-- A source's lists of published and refused readings, and what they tell of its readings: its part of the account of its queue.
use Rattle.std.specs.Prelude.{◌≡◌, ◌⊎◌, ℕ, ◌+◌, ◌-◌, ◌/◌, ◌%◌, ◌^◌, ◌<◌, ◌≤◌, List, length, map, slice_index}
use mathlib.Core.Option.{some}
use lib.ListN.{get_elem?}
use Rattle.irq_source.specs.declared.lists.Published.{Published}
use Rattle.irq_source.specs.declared.lists.Declined.{Declined}
use Rattle.event_queue.specs.Calls.{Won, Knows, won}
use Rattle.irq_source.specs.Known.{settled_of}

-- the lists, and how many entries each can have
pub record Listed : Type 0 where
  pub accepted : List Published
  pub refused : List Declined
  pub accepted_room : ℕ
  pub refused_room : ℕ

-- a published reading as the publication that the seat's call made
abbrev pub publication : Published → Won
publication p = won p.position p.reading p.value

-- reading k is one of the published
abbrev pub IsAccepted : List Published → (k : ℕ) → Type 0
IsAccepted accepted k = (n : ℕ) × (p : Published) × (get_elem? accepted n ≡ some p) × (p.reading ≡ k)

-- reading k is one of the refused
abbrev pub IsRefused : List Declined → (k : ℕ) → Type 0
IsRefused refused k = (n : ℕ) × (d : Declined) × (get_elem? refused n ≡ some d) × (d.reading ≡ k)

-- a published reading is a settled one, has its own value, and names a charge that has begun
pub record IsPublished (readings : List ℕ) (begun settled : ℕ) (p : Published) : Type 0 where
  pub reading : p.reading < settled
  pub value : p.value ≡ slice_index readings p.reading
  pub charge : p.charge < begun

-- A refusal was at a position that lies a turn of the ring above a published one, all positions below it being published. Its reading is a
-- settled one or the next, and it names a charge that has begun
pub record IsDeclined (places begun settled out : ℕ) (d : Declined) : Type 0 where
  pub turn : places ≤ d.position
  pub published : d.position ≤ out
  pub reading : d.reading ≤ settled
  pub charge : d.charge < begun

-- an own event below the position of a refusal has a lower reading, and any other one no lower
abbrev pub Parted : Published → Declined → Type 0
Parted p d = ((p.position < d.position) × (p.reading < d.reading)) ⊎ ((d.position ≤ p.position) × (d.reading ≤ p.reading))

-- The account of a source with these readings, at a queue of so many places, of whose charges so many have begun, with its SRC and what its seat
-- knows: each settled reading is published or refused, and the publications are those of the seat, in order
pub record Accounts (readings : List ℕ) (places begun src : ℕ) (s : Knows) (accepted : List Published) (refused : List Declined) : Type 0 where
  pub mine : map publication accepted ≡ s.mine
  pub within : settled_of src s ≤ length readings
  pub published : (n : ℕ) (p : Published) → get_elem? accepted n ≡ some p → IsPublished readings begun (settled_of src s) p
  pub declined : (n : ℕ) (d : Declined) → get_elem? refused n ≡ some d → IsDeclined places begun (settled_of src s) s.out d
  pub rise : (j n : ℕ) (a b : Declined) → j < n → get_elem? refused j ≡ some a → get_elem? refused n ≡ some b → a.reading ≤ b.reading
  pub parted : (j n : ℕ) (p : Published) (d : Declined) → get_elem? accepted j ≡ some p → get_elem? refused n ≡ some d → Parted p d
  pub covered : (k : ℕ) → k < settled_of src s → IsAccepted accepted k ⊎ IsRefused refused k

-- how many readings are settled, by SRC and the number of publications: those that SRC counts, and one more where it lacks the last publication
abbrev pub settled_with : (src published : ℕ) → ℕ
settled_with src published = src / 2 ^ 32 + (published - src % 2 ^ 32)

-- what SRC and the number of publications tell stays within the readings: no more are published than settled, and no more settled than there are
pub record IsWithin (number src published : ℕ) : Type 0 where
  pub ordered : published ≤ settled_with src published
  pub within : settled_with src published ≤ number
