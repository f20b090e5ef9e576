-- The events of a queue: their numbers, and what their words read as.
use Rattle.std.proofs.Common.{◌≡◌, ◌≢◌, ℕ, ◌%◌, ◌^◌, ◌<◌, ◌≤◌, List, [], ◌∷◌, ◌++◌, length, Some, refl, sym, ap, ◌∙◌, subst, arith}
use Rattle.ink_base.specs.declared.limits.TheConstants as limits
use Rattle.ink_base.specs.declared.event.Event.{Event}
use Rattle.ink_base.specs.declared.event.Origin.{Origin}
use Rattle.ink_base.specs.declared.event.Origin.TheVariants as origins
use Rattle.push_core.specs.Slots.{full_word, empty_word, slot_in}
use Rattle.push_core.specs.Queue.{Queue, event_at, event_source, event_count, IsNumber, IsQueued, IsFinishing, event_word, event_slot, FitsEvent, with_event}
use Rattle.push_core.proofs.Slots.{slot_in-full, full_word-≢-empty_word}

-- the numbers of an event of a queue
pub record HasNumbers (sources : ℕ) (queue_of : ℕ → ℕ) (t : ℕ) (e : Event) : Type 0 where
  pub source : event_source e < sources
  pub queue : queue_of (event_source e) ≡ t
  pub count : event_count e < 64
  pub value : e.value < 2 ^ 32

pub queued_numbers : (sources : ℕ) (queue_of : ℕ → ℕ) (t : ℕ) (e : Event) → IsQueued sources queue_of t e → HasNumbers sources queue_of t e
queued_numbers sources queue_of t e h = by_origin e.origin e.value h
  where
    by_origin : (o : Origin) (value : ℕ) → IsQueued sources queue_of t (record { origin = o; value = value }) →
        HasNumbers sources queue_of t (record { origin = o; value = value })
    by_origin (origins.Source source count) value h = record { source = h.0; queue = h.1; count = h.2; value = h.3 }
    by_origin (origins.Pipe pipe item) value h = absurd h
    by_origin (origins.Timer timer deadline) value h = absurd h

pub queued_fits : (sources : ℕ) (queue_of : ℕ → ℕ) (t position : ℕ) (e : Event) → sources ≤ limits.SOURCES → position < 2 ^ 21 →
    IsQueued sources queue_of t e → FitsEvent position e
queued_fits sources queue_of t position e few lt h =
    let n = queued_numbers sources queue_of t e h in
    record { position_fits = lt; source_fits = omega (arith, n.source); count_fits = n.count; value_fits = n.value }

-- the source and the count of an event with a number
pub number_source : (i number : ℕ) (e : Event) → IsNumber i number e → event_source e ≡ i
number_source i number e is = ap (λ (o : Origin). event_source (record { origin = o; value = e.value })) is

pub number_count : (i number : ℕ) (e : Event) → IsNumber i number e → event_count e ≡ number % 64
number_count i number e is = ap (λ (o : Origin). event_count (record { origin = o; value = e.value })) is

-- and they tell that it has the number
pub is_number : (i number : ℕ) (e : Event) → i < 256 → event_source e ≡ i → event_count e ≡ number % 64 → IsNumber i number e
is_number i number e few own count = by_origin e.origin e.value own count
  where
    by_origin : (o : Origin) (value : ℕ) → event_source (record { origin = o; value = value }) ≡ i →
        event_count (record { origin = o; value = value }) ≡ number % 64 → o ≡ origins.Source (record { 0 = i }) (number % 64)
    by_origin (origins.Source source count) value own same = λ k. origins.Source (record { 0 = own k }) (same k)
    by_origin (origins.Pipe pipe item) value own same = absurd (omega arith)
    by_origin (origins.Timer timer deadline) value own same = absurd (omega arith)

-- the word of a source's event is a full one
pub event_word-is : (p : ℕ) (e : Event) → event_source e < 2 ^ 4 → event_word p e ≡ full_word p (record { 0 = event_source e }) (event_count e) e.value
event_word-is p e few = by_origin e.origin e.value few
  where
    by_origin : (o : Origin) (value : ℕ) → event_source (record { origin = o; value = value }) < 2 ^ 4 →
        event_word p (record { origin = o; value = value })
        ≡ full_word p (record { 0 = event_source (record { origin = o; value = value }) }) (event_count (record { origin = o; value = value })) value
    by_origin (origins.Source source count) value few = refl
    by_origin (origins.Pipe pipe item) value few = absurd (omega arith)
    by_origin (origins.Timer timer deadline) value few = absurd (omega arith)

-- and is read back
pub slot_in-event_word : (p : ℕ) (e : Event) → FitsEvent p e → slot_in (event_word p e) ≡ Some (event_slot p e)
slot_in-event_word p e h =
    ap slot_in (event_word-is p e h.source_fits)
    ∙ slot_in-full p (record { 0 = event_source e }) (event_count e) e.value
    (record { position_fits = h.position_fits; source_fits = h.source_fits; count_fits = h.count_fits }) h.value_fits

-- it is no empty word
pub event_word-≢-empty_word : (p : ℕ) (e : Event) (q : ℕ) → FitsEvent p e → q < 2 ^ 21 → event_word p e ≢ empty_word q
event_word-≢-empty_word p e q h lt same =
    full_word-≢-empty_word p (record { 0 = event_source e }) (event_count e) e.value q lt (sym (event_word-is p e h.source_fits) ∙ same)

-- a queue whose first event is finished: it has one, with its source and count, also where another comes behind it
module _ {i count : ℕ} {q : Queue} (h : IsFinishing i count q) where
  pub finishing_some : 0 < length q.held
  finishing_some = subst (λ (l : List Event). 0 < length l) (sym h.first.1) (omega arith)

  pub finishing_source : event_source (event_at q.held 0) ≡ i
  finishing_source = ap (λ (l : List Event). event_source (event_at l 0)) h.first.1

  pub finishing_count : event_count (event_at q.held 0) ≡ count
  finishing_count = ap (λ (l : List Event). event_count (event_at l 0)) h.first.1

  pub finishing_push : (e : Event) → IsFinishing i count (with_event q e)
  finishing_push e = record { value = h.value; first = (h.first.0 ++ e ∷ [], ap (λ (l : List Event). l ++ e ∷ []) h.first.1); finished = h.finished }
