-- What the words of a queue stand for once some of its events are released.
use Rattle.std.proofs.Common.{◌≡◌, ◌⊎◌, inl, inr, ℕ, suc, ◌+◌, ◌-◌, ◌%◌, ◌<◌, Bool, List, map, drop, length, get_or, sym, ap, ◌∙◌, arith, mod-lt, length-drop}
use Rattle.std.proofs.lemmas.List.{length-map, get_or-map, get_or-drop}
use mathlib.Core.Option.{some}
use lib.ListN.{get_elem?}
use Rattle.ink_base.specs.declared.event.Event.{Event}
use Rattle.push_core.specs.Queue.{StandsQueue, event_at, event_word, no_event}
use Rattle.event_queue.specs.Events.{Entry}
use Rattle.event_queue.specs.Rule.{QueueKept}
use Rattle.event_queue.proofs.Basics.{at_get}
use Rattle.live_account.specs.Matches.{event_of}

-- an entry that isn't there
abbrev no_entry : Entry
no_entry = record { source = 0; count = 0; reading = 0; value = 0 }

module _ (entries : List Entry) (events : List Event) (same : events ≡ map event_of entries) where
  pub events_count : length events ≡ length entries
  events_count = ap length same ∙ length-map entries event_of

  pub left_count : (released : ℕ) → length (drop released events) ≡ length entries - released
  left_count released = omega (arith, length-drop released events, events_count)

  -- an event that is left is that of its entry
  pub left_at : (released k : ℕ) → k < length (drop released events) → event_at (drop released events) k ≡ event_of (get_or entries (released + k) no_entry)
  left_at released k lt =
      let within : released + k < length entries = omega (arith, left_count released) in
      get_or-drop released events k no_event ∙ (ap (λ (l : List Event). get_or l (released + k) no_event) same ∙ get_or-map event_of entries (released + k) no_entry no_event within)

  pub entry_at : (released k : ℕ) → k < length (drop released events) → get_elem? entries (released + k) ≡ some (get_or entries (released + k) no_entry)
  entry_at released k lt = at_get entries (released + k) no_entry (omega (arith, left_count released))

  -- what the set keeps of a queue is what its words stand for
  pub stands_queue : (places : ℕ) (slot new : ℕ → ℕ) (tail released : ℕ) (finished : Bool) → 0 < places → ((n : ℕ) → n < places → new n ≡ slot n) → QueueKept places slot tail entries released →
      StandsQueue places new tail (record { held = drop released events; finished = finished; released = released })
  stands_queue places slot new tail released finished some_place as_set kept =
      let size = left_count released in
      record {
        room = let room = kept.room in omega arith;
        full_slots = λ k lt.
            as_set ((released + k) % places) (mod-lt _ some_place)
            ∙ (kept.full_slots (released + k) (get_or entries (released + k) no_entry) (omega arith) (entry_at released k lt)
            ∙ ap (event_word (released + k)) (sym (left_at released k lt)));
        empty_slots = λ s above under. as_set (s % places) (mod-lt _ some_place) ∙ kept.empty_slots s (let behind = kept.behind in omega arith) under;
        tail_near = near (let behind = kept.behind in omega arith) kept.tail_near;
      }
    where
      near : {n : ℕ} → n ≡ length entries → (tail ≡ length entries) ⊎ (suc tail ≡ length entries) → (tail ≡ n) ⊎ (tail + 1 ≡ n)
      near is (inl all) = inl (omega arith)
      near is (inr less) = inr (omega arith)
