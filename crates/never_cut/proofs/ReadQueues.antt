-- The events that the words tell of a queue stand in its slots.
use Rattle.never_cut.proofs.Common.{◌≡◌, inl, inr, ℕ, zero, suc, ◌+◌, ◌-◌, ◌/◌, ◌%◌, ◌^◌, ◌<◌, ◌≤◌, ◌==◌, ◌&&◌, cond, Bool, true, false, List, [], ◌∷◌, length, Option, Some, None, refl, sym, ap, ◌∙◌, subst, arith, nat_lt, if◌then◌else◌, eqb-true, ltb-true, cases_lt, and_parts, SourceId, Event, Program, Memory, Tail, Slot, committed, Empty, Full, full_word, empty_word, full_in, slot_in, word_of, StandsQueue, event_at, event_word, slot_in-empty, thread_def, source_thread, flag, slots_of, IsQueued, slot_of, is_full_of, event_in, events_from, told_finished, told_released, told_held, told_queue, IsQueueRight}
use Rattle.std.proofs.lemmas.Option.{same_Some}
use Rattle.ink_base.specs.declared.event.Origin.TheVariants as origins
use Rattle.fram_words.specs.Header as header
use Rattle.push_core.specs.declared.slot.Slot as slot

-- the numbers of a full word
record IsFullWord (word p : ℕ) (i : SourceId) (c v : ℕ) : Type 0 where
  pub is : word ≡ full_word p i c v
  pub count : c < 64
  pub value : v < 2 ^ 32

abbrev count_in : slot.Slot → ℕ
count_in (Empty p) = 0
count_in (Full p i c v) = c

abbrev value_in : slot.Slot → ℕ
value_in (Empty p) = 0
value_in (Full p i c v) = v

-- a word that is read as full is that word, and its numbers fit their bits
full_read : (word p : ℕ) (i : SourceId) (c v : ℕ) → slot_in word ≡ Some (Full p i c v) → IsFullWord word p i c v
full_read word p i c v e = by_flag (word / 2 ^ 63 == 1) (word % 2 ^ 42 == 0) refl e
  where
    by_flag : (b d : Bool) → (word / 2 ^ 63 == 1) ≡ b → cond b (Some (full_in word)) (cond d (Some (Empty (word / 2 ^ 42))) None) ≡ Some (Full p i c v) → IsFullWord word p i c v
    by_flag true d f e =
        let one : word / 2 ^ 63 ≡ 1 = eqb-true _ _ f in
        let is : full_in word ≡ Full p i c v = same_Some _ _ e in
        let whole : word ≡ word_of (full_in word) = omega arith in
        let count : word / 2 ^ 32 % 2 ^ 6 ≡ c = ap count_in is in
        let value : word % 2 ^ 32 ≡ v = ap value_in is in
        record { is = whole ∙ ap word_of is; count = omega arith; value = omega arith }
    by_flag false true f e = absurd (let clash : Some (Empty (word / 2 ^ 42)) ≡ Some (Full p i c v) = e in cc)
    by_flag false false f e = absurd (let clash : None ≡ Some (Full p i c v) = e in cc)

-- the slot of the position has the event's word, and the event is one of the thread's queue
pub record IsReadAt (program : Program) (words : Memory) (t p : ℕ) (e : Event) : Type 0 where
  pub word : words (Slot t (p % (thread_def program t).queue)) ≡ event_word p e
  pub queued : IsQueued program t e

module _ (program : Program) (words : Memory) (t : ℕ) where
  full_event : (p : ℕ) (e : Event) (q : ℕ) (source : SourceId) (count value : ℕ) (b : Bool) → slot_of program words t p ≡ Some (Full q source count value) →
      ((q == p) && (nat_lt source.0 (length program.sources) && (source_thread program source.0 == t))) ≡ b →
      (if b then Some (record { origin = origins.Source source count; value = value }) else None) ≡ Some e → IsReadAt program words t p e
  full_event p e q source count value true at test is =
      let tests = and_parts (q == p) (nat_lt source.0 (length program.sources) && (source_thread program source.0 == t)) test in
      let own = and_parts (nat_lt source.0 (length program.sources)) (source_thread program source.0 == t) tests.1 in
      let full = full_read (words (Slot t (p % (thread_def program t).queue))) q source count value at in
      subst (IsReadAt program words t p) (same_Some _ _ is)
      (record {
        word = full.is ∙ ap (λ n. full_word n source count value) (eqb-true _ _ tests.0);
        queued = (ltb-true _ _ own.0, eqb-true _ _ own.1, full.count, full.value);
      })
  full_event p e q source count value false at test is = absurd (let clash : None ≡ Some e = is in cc)

  event_at_slot : (p : ℕ) (e : Event) (s : Option slot.Slot) → slot_of program words t p ≡ s → event_in program t p s ≡ Some e → IsReadAt program words t p e
  event_at_slot p e None at is = absurd (let clash : None ≡ Some e = is in cc)
  event_at_slot p e (Some (Empty q)) at is = absurd (let clash : None ≡ Some e = is in cc)
  event_at_slot p e (Some (Full q source count value)) at is =
      full_event p e q source count value ((q == p) && (nat_lt source.0 (length program.sources) && (source_thread program source.0 == t))) at refl is

  event_read : (p : ℕ) (e : Event) → event_in program t p (slot_of program words t p) ≡ Some e → IsReadAt program words t p e
  event_read p e is = event_at_slot p e (slot_of program words t p) refl is

  -- an event and those behind it, or none
  abbrev pub followed : (p most : ℕ) → Option Event → List Event
  followed p most None = []
  followed p most (Some e) = e ∷ events_from program words t (p + 1) most

  first_read : (p most : ℕ) →
      ((k : ℕ) → k < length (events_from program words t (p + 1) most) → IsReadAt program words t (p + 1 + k) (event_at (events_from program words t (p + 1) most) k)) →
      (o : Option Event) → event_in program t p (slot_of program words t p) ≡ o → (k : ℕ) →
      k < length (followed p most o) →
      IsReadAt program words t (p + k) (event_at (followed p most o) k)
  first_read p most rest None is k lt = absurd (omega arith)
  first_read p most rest (Some e) is zero lt = subst (λ n. IsReadAt program words t n e) (let z : p ≡ p + 0 = omega arith in z) (event_read p e is)
  first_read p most rest (Some e) is (suc k) lt =
      subst (λ n. IsReadAt program words t n (event_at (events_from program words t (p + 1) most) k)) (let s : p + 1 + k ≡ p + suc k = omega arith in s) (rest k (omega arith))

  -- each event that is read off
  pub events_read : (most p k : ℕ) → k < length (events_from program words t p most) → IsReadAt program words t (p + k) (event_at (events_from program words t p most) k)
  events_read zero p k lt = absurd (omega arith)
  events_read (suc most) p k lt =
      first_read p most (λ j less. events_read most (p + 1) j less) (event_in program t p (slot_of program words t p)) refl k lt

  first_few : (p most : ℕ) (o : Option Event) → length (events_from program words t (p + 1) most) ≤ most →
      length (followed p most o) ≤ suc most
  first_few p most None le = omega arith
  first_few p most (Some e) le = omega arith

  pub events_few : (most p : ℕ) → length (events_from program words t p most) ≤ most
  events_few zero p = omega arith
  events_few (suc most) p = first_few p most (event_in program t p (slot_of program words t p)) (events_few most (p + 1))

  -- so the queue's words stand for them
  pub queue_read : IsQueueRight program words t → StandsQueue (thread_def program t).queue (slots_of words t) (words (Tail t)) (told_queue program words t)
  queue_read right = record {
    room = events_few (thread_def program t).queue (told_released program words t);
    full_slots = λ k lt. (events_read (thread_def program t).queue (told_released program words t) k lt).word;
    empty_slots = λ s above below.
        let k : ℕ = s - told_released program words t in
        let same : told_released program words t + k ≡ s = omega arith in
        subst (λ n. words (Slot t (n % (thread_def program t).queue)) ≡ empty_word n) same ((right.slots k (omega arith)).empty (omega arith));
    tail_near = right.tail;
  }

  -- a finished event is still held
  pub finished_held : IsQueueRight program words t → 0 < (thread_def program t).queue → told_finished program words t ≡ true → 0 < length (told_held program words t)
  finished_held right some is =
      elim (cases_lt 0 (length (told_held program words t))) [
        | inl held ↦ held
        | inr none ↦
            let last : ℕ = committed words t header.finished - 1 in
            let both = and_parts (nat_lt 0 (committed words t header.finished)) (is_full_of last (slot_of program words t last)) is in
            let counted : told_released program words t ≡ last = ap (λ b. committed words t header.finished - flag b) is in
            let same : told_released program words t + 0 ≡ last = omega (arith, counted) in
            let empty = subst (λ n. words (Slot t (n % (thread_def program t).queue)) ≡ empty_word n) same ((right.slots 0 some).empty none) in
            let fits : last < 2 ^ 21 = subst (λ n. n < 2 ^ 21) same ((right.slots 0 some).fits none) in
            let read : slot_of program words t last ≡ Some (Empty last) = ap slot_in empty ∙ slot_in-empty last fits in
            absurd (let clash : false ≡ true = sym (ap (is_full_of last) read) ∙ both.1 in cc)
      ]
