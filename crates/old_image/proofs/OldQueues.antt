-- The events that the words of the earlier form tell of a queue stand in its slots.
use Rattle.old_image.proofs.Common.{◌≡◌, inl, inr, ℕ, zero, suc, ◌+◌, ◌-◌, ◌%◌, ◌^◌, ◌<◌, ◌≤◌, ◌==◌, ◌&&◌, nat_lt, Bool, true, false, List, [], ◌∷◌, length, Option, Some, None, refl, sym, ap, ◌∙◌, subst, arith, if◌then◌else◌, eqb-true, ltb-true, lt-ltb, and_parts, cases_lt, same_Some, SourceId, Memory, Slot, Program, thread_def, source_thread, committed, flag, OldEvent, OldSlot, FitsOldSlot, old_slot_in, old_slot_of, is_old_full_of, feeds, old_event_in, old_events_from, old_event_at, old_finished, old_released, old_held, IsOldQueueRight}
use Rattle.old_image.specs.declared.old_slot.OldSlot.TheVariants.{Empty, Full}
use Rattle.fram_words.specs.Header as header
use Rattle.old_image.proofs.Slots.{full_fits, old_slot_in-word_of}

-- the slot of the position has the event, which is one of the thread's queue
pub record IsOldReadAt (program : Program) (words : Memory) (t p : ℕ) (e : OldEvent) : Type 0 where
  pub slot : old_slot_of program words t p ≡ Some (Full p e.source e.reading e.value)
  pub fits : FitsOldSlot p e.source e.reading e.value
  pub known : e.source.0 < length program.sources
  pub own : source_thread program e.source.0 ≡ t

module _ (program : Program) (words : Memory) (t : ℕ) where
  old_full_event : (p : ℕ) (e : OldEvent) (q : ℕ) (source : SourceId) (reading value : ℕ) (b : Bool) → old_slot_of program words t p ≡ Some (Full q source reading value) →
      ((q == p) && feeds program t source.0) ≡ b →
      (if b then Some (record { source = source; reading = reading; value = value }) else None) ≡ Some e → IsOldReadAt program words t p e
  old_full_event p e q source reading value true at test is =
      let tests = and_parts (q == p) (feeds program t source.0) test in
      let own = and_parts (nat_lt source.0 (length program.sources)) (source_thread program source.0 == t) tests.1 in
      let here : old_slot_of program words t p ≡ Some (Full p source reading value) = at ∙ ap (λ n. Some (Full n source reading value)) (eqb-true _ _ tests.0) in
      subst (IsOldReadAt program words t p) (same_Some _ _ is)
      (record {
        slot = here;
        fits = full_fits (words (Slot t (p % (thread_def program t).queue))) p source reading value here;
        known = ltb-true _ _ own.0;
        own = eqb-true _ _ own.1;
      })
  old_full_event p e q source reading value false at test is = absurd (let clash : None ≡ Some e = is in cc)

  old_event_at_slot : (p : ℕ) (e : OldEvent) (s : Option OldSlot) → old_slot_of program words t p ≡ s → old_event_in program t p s ≡ Some e → IsOldReadAt program words t p e
  old_event_at_slot p e None at is = absurd (let clash : None ≡ Some e = is in cc)
  old_event_at_slot p e (Some (Empty q)) at is = absurd (let clash : None ≡ Some e = is in cc)
  old_event_at_slot p e (Some (Full q source reading value)) at is =
      old_full_event p e q source reading value ((q == p) && feeds program t source.0) at refl is

  pub old_event_read : (p : ℕ) (e : OldEvent) → old_event_in program t p (old_slot_of program words t p) ≡ Some e → IsOldReadAt program words t p e
  old_event_read p e is = old_event_at_slot p e (old_slot_of program words t p) refl is

  -- an event and those behind it, or none
  abbrev pub old_followed : (p most : ℕ) → Option OldEvent → List OldEvent
  old_followed p most None = []
  old_followed p most (Some e) = e ∷ old_events_from program words t (p + 1) most

  first_told : (p most : ℕ) →
      ((k : ℕ) → k < length (old_events_from program words t (p + 1) most) →
      old_event_in program t (p + 1 + k) (old_slot_of program words t (p + 1 + k)) ≡ Some (old_event_at (old_events_from program words t (p + 1) most) k)) →
      (o : Option OldEvent) → old_event_in program t p (old_slot_of program words t p) ≡ o → (k : ℕ) → k < length (old_followed p most o) →
      old_event_in program t (p + k) (old_slot_of program words t (p + k)) ≡ Some (old_event_at (old_followed p most o) k)
  first_told p most rest None is k lt = absurd (omega arith)
  first_told p most rest (Some e) is zero lt =
      subst (λ n. old_event_in program t n (old_slot_of program words t n) ≡ Some e) (let z : p ≡ p + 0 = omega arith in z) is
  first_told p most rest (Some e) is (suc k) lt =
      subst (λ n. old_event_in program t n (old_slot_of program words t n) ≡ Some (old_event_at (old_events_from program words t (p + 1) most) k))
      (let s : p + 1 + k ≡ p + suc k = omega arith in s) (rest k (omega arith))

  -- the slot of each event that is read off tells it
  pub old_events_told : (most p k : ℕ) → k < length (old_events_from program words t p most) →
      old_event_in program t (p + k) (old_slot_of program words t (p + k)) ≡ Some (old_event_at (old_events_from program words t p most) k)
  old_events_told zero p k lt = absurd (omega arith)
  old_events_told (suc most) p k lt =
      first_told p most (λ j less. old_events_told most (p + 1) j less) (old_event_in program t p (old_slot_of program words t p)) refl k lt

  old_first_few : (p most : ℕ) (o : Option OldEvent) → length (old_events_from program words t (p + 1) most) ≤ most → length (old_followed p most o) ≤ suc most
  old_first_few p most None le = omega arith
  old_first_few p most (Some e) le = omega arith

  pub old_events_few : (most p : ℕ) → length (old_events_from program words t p most) ≤ most
  old_events_few zero p = omega arith
  old_events_few (suc most) p = old_first_few p most (old_event_in program t p (old_slot_of program words t p)) (old_events_few most (p + 1))

  -- the k-th held event stands k places behind the first
  pub held_read : (k : ℕ) → k < length (old_held program words t) → IsOldReadAt program words t (old_released program words t + k) (old_event_at (old_held program words t) k)
  held_read k lt =
      old_event_read (old_released program words t + k) (old_event_at (old_held program words t) k)
      (old_events_told (thread_def program t).queue (old_released program words t) k lt)

  pub held_few : length (old_held program words t) ≤ (thread_def program t).queue
  held_few = old_events_few (thread_def program t).queue (old_released program words t)

  -- a finished event is still held
  pub old_finished_held : IsOldQueueRight program words t → 0 < (thread_def program t).queue → old_finished program words t ≡ true → 0 < length (old_held program words t)
  old_finished_held right some is =
      elim (cases_lt 0 (length (old_held program words t))) [
        | inl held ↦ held
        | inr none ↦
            let last : ℕ = committed words t header.finished - 1 in
            let both = and_parts (nat_lt 0 (committed words t header.finished)) (is_old_full_of last (old_slot_of program words t last)) is in
            let counted : old_released program words t ≡ last = ap (λ b. committed words t header.finished - flag b) is in
            let same : old_released program words t + 0 ≡ last = omega (arith, counted) in
            let fits : last < 2 ^ 21 = subst (λ n. n < 2 ^ 21) same ((right.slots 0 some).fits none) in
            let read : old_slot_of program words t last ≡ Some (Empty last) =
            subst (λ n. old_slot_of program words t n ≡ Some (Empty n)) same
            (ap old_slot_in ((right.slots 0 some).empty none) ∙ old_slot_in-word_of (Empty (old_released program words t + 0)) ((right.slots 0 some).fits none)) in
            absurd (let clash : false ≡ true = sym (ap (is_old_full_of last) read) ∙ both.1 in cc)
      ]
