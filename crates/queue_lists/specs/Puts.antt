-- A source's published readings, put at their positions in the lists of its queue.
use Rattle.std.specs.Prelude.{◌≡◌, ◌≢◌, ℕ, ◌<◌, List, length}
use mathlib.Core.Option.{some}
use lib.ListN.{get_elem?}
use Rattle.ink_base.specs.declared.accept.Accept.{Accept}
use Rattle.ink_base.specs.declared.ids.SourceId.{SourceId}
use Rattle.irq_source.specs.declared.lists.Declined.{Declined}
use Rattle.irq_source.specs.declared.lists.Published.{Published}
use Rattle.live_account.specs.declared.record.Refusal.{Refusal}

-- the event of a published reading
abbrev pub accepted_as : SourceId → Published → Accept
accepted_as source p = record { source = source; reading = p.reading; value = p.value }

-- positions rise, and the lists have them
pub record HavePositions (published : List Published) (places : ℕ) : Type 0 where
  pub below : (n : ℕ) (p : Published) → get_elem? published n ≡ some p → p.position < places
  pub rise : (j n : ℕ) (p q : Published) → j < n → get_elem? published j ≡ some p → get_elem? published n ≡ some q → p.position < q.position

-- at this place, none of the first so many stands
abbrev pub NoneAt : List Published → (count q : ℕ) → Type 0
NoneAt published count q = (n : ℕ) (p : Published) → n < count → get_elem? published n ≡ some p → p.position ≢ q

-- Each of the first so many published readings stands at its position, its charge beside it; all else is as it was.
pub record ArePut (source : SourceId) (published : List Published) (count : ℕ) (before accepts : List Accept) (dates charges : List ℕ) : Type 0 where
  pub size : length accepts ≡ length before
  pub dated : length charges ≡ length dates
  pub here : (n : ℕ) (p : Published) → n < count → get_elem? published n ≡ some p → get_elem? accepts p.position ≡ some (accepted_as source p)
  pub date : (n : ℕ) (p : Published) → n < count → get_elem? published n ≡ some p → get_elem? charges p.position ≡ some p.charge
  pub elsewhere : (q : ℕ) → NoneAt published count q → get_elem? accepts q ≡ get_elem? before q
  pub dates_elsewhere : (q : ℕ) → NoneAt published count q → get_elem? charges q ≡ get_elem? dates q

-- a refused reading with its source
abbrev pub refusal_of : SourceId → Declined → Refusal
refusal_of source d = record { source = source; reading = d.reading; position = d.position; charge = d.charge }
