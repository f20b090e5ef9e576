-- What a source's own lists tell of the events of its queue.
use Rattle.std.specs.Prelude.{◌≡◌, ◌⊎◌, ℕ, ◌<◌, ◌≤◌, List, length, slice_index}
use mathlib.Core.Option.{some}
use lib.ListN.{get_elem?}
use Rattle.event_queue.specs.declared.view.Call.{Call}
use Rattle.event_queue.specs.declared.view.Lay.{Lay}
use Rattle.event_queue.specs.declared.view.View.{View}
use Rattle.event_queue.specs.declared.seat.SourceSeat.{SourceSeat}
use Rattle.event_queue.specs.Calls.{Knows, mine_of, won}
use Rattle.event_queue.specs.Events.{Entry}
use Rattle.event_queue.specs.Finishes.{Finished}
use Rattle.event_queue.specs.Views.{queue_of}
use Rattle.irq_source.specs.declared.lists.Published.{Published}
use Rattle.irq_source.specs.declared.lists.Declined.{Declined}
use Rattle.irq_source.specs.Account.{Accounts, IsDeclined, IsRefused, publication}
use Rattle.queue_lists.specs.Accounts.{KeepsSrc, source_with}

-- The lists and SRC of a source that has made these calls are its account, over no more published positions than its queue has.
pub record IsAccountOver (entries : List Entry) (calls : List Call) (places begun src : ℕ) (readings : List ℕ) (accepted : List Published) (refused : List Declined) : Type 0 where
  pub knows : Knows
  pub lists : Accounts readings places begun src knows accepted refused
  pub src_kept : KeepsSrc (length readings) src knows
  pub mine : knows.mine ≡ mine_of calls
  pub out : knows.out ≤ length entries

-- The entry at position p is one of the published readings, with the value of its reading, which is settled; its charge has begun.
pub record IsListed (begun next : ℕ) (readings : List ℕ) (accepted : List Published) (p : ℕ) (e : Entry) : Type 0 where
  pub number : ℕ
  pub listed : Published
  pub at : get_elem? accepted number ≡ some listed
  pub same : publication listed ≡ won p e.reading e.value
  pub charge : listed.charge < begun
  pub settled : e.reading < next
  pub within : e.reading < length readings
  pub value : e.value ≡ slice_index readings e.reading

-- an entry is of source i and of its reading k
abbrev pub HasReading : List Entry → (i k : ℕ) → Type 0
HasReading entries i k = (p : ℕ) × (e : Entry) × (get_elem? entries p ≡ some e) × (e.source ≡ i) × (e.reading ≡ k)

-- a refusal parts the source's events by their readings
abbrev pub Parts : Declined → ℕ → Entry → Type 0
Parts d p e = ((p < d.position) × (e.reading < d.reading)) ⊎ ((d.position ≤ p) × (d.reading ≤ e.reading))

-- The source's events are its published readings, and rise. Its settled readings are those below the next; each is an event's or a refused one.
-- Its refusals stand at published positions and part its events.
pub record TellsReadings (entries : List Entry) (i places begun next : ℕ) (readings : List ℕ) (accepted : List Published) (refused : List Declined) : Type 0 where
  pub events : (p : ℕ) (e : Entry) → get_elem? entries p ≡ some e → e.source ≡ i → IsListed begun next readings accepted p e
  pub rise : (p q : ℕ) (a b : Entry) → p < q → get_elem? entries p ≡ some a → get_elem? entries q ≡ some b → a.source ≡ i → b.source ≡ i → a.reading < b.reading
  pub within : next ≤ length readings
  pub settled : (k : ℕ) → k < next → HasReading entries i k ⊎ IsRefused refused k
  pub refusals : (n : ℕ) (d : Declined) → get_elem? refused n ≡ some d → IsDeclined places begun next (length entries) d
  pub parted : (p n : ℕ) (e : Entry) (d : Declined) → get_elem? entries p ≡ some e → e.source ≡ i → get_elem? refused n ≡ some d → Parts d p e

-- so it is of each source
abbrev pub EveryAccountTells : Type 0
EveryAccountTells = (lay : Lay) (words : List ℕ) (kernel clock : View) (seats : List SourceSeat) (f : Finished lay words kernel clock seats) (i places begun src : ℕ) (readings : List ℕ) (accepted : List Published) (refused : List Declined) →
    IsAccountOver (f.entries (queue_of lay i)) (f.calls.source i) places begun src readings accepted refused →
    TellsReadings (f.entries (queue_of lay i)) i places begun (source_with src (length (mine_of (f.calls.source i)))).next readings accepted refused
