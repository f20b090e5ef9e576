-- What a source knows after each of its own accesses.
use Rattle.source_laws.proofs.Common.{◌≡◌, ◌⊎◌, inl, inr, ℕ, ◌+◌, ◌/◌, ◌%◌, ◌^◌, ◌<◌, ◌≤◌, ◌==◌, ◌&&◌, ◌||◌, cond, nat_lt, Bool, true, false, length, refl, sym, ap, ◌∙◌, subst, arith, Some, None, Option, mod-lt, eqb-true, eq-eqb, ne_eqb, ltb-true, ltb-false, lt-ltb, true≢false, cases_lt, cases_eq, or_cases, or_left, or_right, and_parts, and_from, false≢true, empty_word, slot_in, Queue, published, event_at, event_source, event_count, event_word, event_slot, IsNumber, FitsEvent, StandsQueue, KeepsNumbers, slot_in-event_word, event_word-≢-empty_word, number_source, number_count, SlotIs, Holds, IsEmpty, slot_is, Near, src_word, shows_own, after_boot_slot, after_ack, after_slot, is_full_at, Stage, LoadSlots, LoadAck, LoadTail, LoadSlot, Publish, HelpTail, StoreSkip, StoreAccepted, KnowsAt, Boots, IsOrdered}
use Rattle.ink_base.specs.declared.limits.TheConstants as limits
use Rattle.ink_base.specs.declared.ids.SourceId.{SourceId}
use Rattle.push_core.specs.declared.slot.Slot.{Slot}
use Rattle.push_core.specs.declared.slot.Slot.TheVariants.{Empty, Full}
use Rattle.push_core.proofs.Slots.{slot_in-empty}
use Rattle.push_core.proofs.Rings.{same_position, next_turn}
use Rattle.source_laws.proofs.Sources.{own_count, ack_behind, last_one, src_parts, stored_as}

-- what is known of a source, its queue and its words
pub record Own (i places readings : ℕ) (slot : ℕ → ℕ) (v : Near) : Type 0 where
  pub queue : StandsQueue places slot v.tail v.queue
  pub source : KeepsNumbers i v.src v.ack v.queue v.source
  pub ordered : IsOrdered readings v.source
  pub fits : (k : ℕ) → k < length v.queue.held → FitsEvent (v.queue.released + k) (event_at v.queue.held k)
  pub positions : v.queue.released + places < 2 ^ 21
  pub some : 0 < places
  pub small : places ≤ limits.QUEUE_PLACES
  pub few : readings ≤ limits.READINGS
  pub known : i < limits.SOURCES

-- what the slot of a loaded tail shows: that it is the next position and free, the event one turn before, or that the position is passed
data Look (places : ℕ) (slot : ℕ → ℕ) (tail : ℕ) (q : Queue) (p : ℕ) : Type 0 where
  Free : slot (p % places) ≡ empty_word p → slot_in (slot (p % places)) ≡ Some (Empty p) → published q ≡ p → length q.held < places → tail ≡ p → Look places slot tail q p
  Turn : slot_in (slot (p % places)) ≡ Some (event_slot q.released (event_at q.held 0)) → q.released + places ≡ p → length q.held ≡ places → Look places slot tail q p
  Passed : p < published q → (slot (p % places) ≡ empty_word p → ⊥) → ((x : ℕ) (i : SourceId) (c v : ℕ) → slot_in (slot (p % places)) ≡ Some (Full x i c v) → x + places ≡ p → ⊥) → ((x : ℕ) → slot_in (slot (p % places)) ≡ Some (Empty x) → x ≡ p → ⊥) → Look places slot tail q p

passed_row : (places p : ℕ) (o : Option Slot) → ((x : ℕ) (i : SourceId) (c v : ℕ) → o ≡ Some (Full x i c v) → x + places ≡ p → ⊥) → ((x : ℕ) → o ≡ Some (Empty x) → x ≡ p → ⊥) → after_slot places p o ≡ HelpTail p
passed_row places p None nf ne = refl
passed_row places p (Some (Empty x)) nf ne = ap (λ (t : Bool). cond t (Publish p) (HelpTail p)) (ne_eqb x p (ne x refl))
passed_row places p (Some (Full x i c v)) nf ne = ap (λ (t : Bool). cond t StoreSkip (HelpTail p)) (ne_eqb (x + places) p (nf x i c v refl))

passed_no : (places p : ℕ) (o : Option Slot) → ((x : ℕ) (i : SourceId) (c v : ℕ) → o ≡ Some (Full x i c v) → x + places ≡ p → ⊥) → is_full_at places p o ≡ false
passed_no places p None nf = refl
passed_no places p (Some (Empty x)) nf = refl
passed_no places p (Some (Full x i c v)) nf = ne_eqb (x + places) p (nf x i c v refl)

module _ {i places readings : ℕ} {slot : ℕ → ℕ} {v : Near} (h : Own i places readings slot v) where
  -- what source i knows in a row, with these words
  abbrev KnowsNow : (a k : ℕ) → Stage → Type 0
  KnowsNow a k stage = KnowsAt i places readings v a k stage

  accepted_small : v.source.accepted < 2 ^ 32
  accepted_small = omega (arith, h.ordered.accepted, h.ordered.next, h.few)

  -- the load of SRC
  pub own_src : KnowsNow (v.src % 2 ^ 32) (v.src / 2 ^ 32) (LoadSlots 0 false)
  own_src =
      let st = h.source.stored in
      let small : st.0 < 2 ^ 32 = elim st.3 [ inl p ↦ omega (arith, p.0, accepted_small) | inr p ↦ omega (arith, p.0, accepted_small) ] in
      let parts = src_parts st.0 st.1 small in
      let a-is : v.src % 2 ^ 32 ≡ st.0 = ap (λ x. x % 2 ^ 32) st.2 ∙ parts.0 in
      let k-is : v.src / 2 ^ 32 ≡ st.1 = ap (λ x. x / 2 ^ 32) st.2 ∙ parts.1 in (
        record {
          word = st.2 ∙ sym (λ j. src_word (a-is j) (k-is j));
          small = omega arith;
          seen_one = λ e. absurd (false≢true e);
          unseen_one = λ one. elim (last_one h.source (v.src % 2 ^ 32) (omega (arith, h.known)) one) [
            | inl x ↦ inr (inl (x.0, x.1, x.2, omega arith))
            | inr y ↦ inr (inr y)
          ];
        },
        h.some,
      )

  -- what a word of the queue reads as
  read_held : (n k : ℕ) → k < length v.queue.held → slot n ≡ event_word (v.queue.released + k) (event_at v.queue.held k) → slot_in (slot n) ≡ Some (event_slot (v.queue.released + k) (event_at v.queue.held k))
  read_held n k lt is = ap slot_in is ∙ slot_in-event_word (v.queue.released + k) (event_at v.queue.held k) (h.fits k lt)

  read_free : (n p : ℕ) → p < v.queue.released + places → slot n ≡ empty_word p → slot_in (slot n) ≡ Some (Empty p)
  read_free n p below is = ap slot_in is ∙ slot_in-empty p (omega (arith, h.positions))

  -- a slot shows an own event with the count a only where a counts as accepted
  shows_one : (a n : ℕ) → SlotIs places slot v.queue n → shows_own (record { 0 = i }) a (slot_in (slot n)) ≡ true → v.source.accepted ≡ a → ⊥
  shows_one a n (Holds k lt at is) found same =
      let t : (event_source (event_at v.queue.held k) == i && event_count (event_at v.queue.held k) == a % 64) ≡ true = sym (ap (shows_own (record { 0 = i }) a) (read_held n k lt is)) ∙ found in
      let parts = and_parts _ _ t in
      own_count h.source a k (omega (arith, h.queue.room, h.small)) lt (eqb-true _ _ parts.0) (eqb-true _ _ parts.1) same
  shows_one a n (IsEmpty p above below at is) found same = false≢true (sym (ap (shows_own (record { 0 = i }) a) (read_free n p below is)) ∙ found)

  -- a slot shows the event that is ahead in it
  shows_ahead : (a n j : ℕ) → j < length v.queue.held → IsNumber i a (event_at v.queue.held j) → (v.queue.released + j) % places ≡ n → shows_own (record { 0 = i }) a (slot_in (slot n)) ≡ true
  shows_ahead a n j lt is at =
      ap (shows_own (record { 0 = i }) a) (read_held n j lt (ap slot (sym at) ∙ h.queue.full_slots j lt)) ∙ and_from _ _ (eq-eqb _ _ (number_source i a (event_at v.queue.held j) is)) (eq-eqb _ _ (number_count i a (event_at v.queue.held j) is))

  -- the numbers of SRC are the source's, or one less
  boots_as : (a k n : ℕ) (seen : Bool) → Boots i places v a k n seen → ((v.source.accepted ≡ a) × (v.source.next ≡ k)) ⊎ ((v.source.accepted ≡ a + 1) × (v.source.next ≡ k + 1))
  boots_as a k n seen b = stored_as h.source a k b.small accepted_small b.word

  -- the load of one slot in the boot
  boots_next : (a k n : ℕ) (seen : Bool) → n < places → Boots i places v a k n seen → Boots i places v a k (n + 1) (seen || shows_own (record { 0 = i }) a (slot_in (slot n)))
  boots_next a k n seen lt b = record {
    word = b.word;
    small = b.small;
    seen_one = λ e. elim (boots_as a k n seen b) [
      | inl before ↦ elim (or_cases seen _ e) [
        | inl already ↦ b.seen_one already
        | inr now ↦ absurd (shows_one a n (slot_is h.queue n lt) now before.0)
      ]
      | inr late ↦ late.0
    ];
    unseen_one = λ one. elim (b.unseen_one one) [
      | inl before ↦ inl (or_left seen _ before)
      | inr (inl x) ↦ elim (cases_eq ((v.queue.released + x.0) % places) n) [
        | inl here ↦ inl (or_right seen _ (shows_ahead a n x.0 x.1 x.2 here))
        | inr beyond ↦ inr (inl (x.0, x.1, x.2, omega (arith, x.3, beyond)))
      ]
      | inr (inr y) ↦ inr (inr y)
    ];
  }

  pub own_slots : (a k n : ℕ) (seen : Bool) → KnowsNow a k (LoadSlots n seen)
      → KnowsNow a k (after_boot_slot places n (seen || shows_own (record { 0 = i }) a (slot_in (slot n))))
  own_slots a k n seen b = by_test (nat_lt (n + 1) places) refl
    where
      next : Boots i places v a k (n + 1) (seen || shows_own (record { 0 = i }) a (slot_in (slot n)))
      next = boots_next a k n seen b.1 b.0

      by_test : (t : Bool) → nat_lt (n + 1) places ≡ t
          → KnowsNow a k (cond t (LoadSlots (n + 1) (seen || shows_own (record { 0 = i }) a (slot_in (slot n)))) (LoadAck (seen || shows_own (record { 0 = i }) a (slot_in (slot n)))))
      by_test true e = (next, ltb-true _ _ e)
      by_test false e = subst (λ (m : ℕ). Boots i places v a k m (seen || shows_own (record { 0 = i }) a (slot_in (slot n)))) (let same : n + 1 ≡ places = omega (arith, ltb-false _ _ e, b.1) in same) next

  -- the load of ACK
  pub own_ack : (a k : ℕ) (seen : Bool) → KnowsNow a k (LoadAck seen) → KnowsNow a k (after_ack a (nat_lt k readings) seen v.ack)
  own_ack a k seen b = by_test (nat_lt k readings && (seen || v.ack == (a + 1) % 64)) refl
    where
      by_test : (t : Bool) → (nat_lt k readings && (seen || v.ack == (a + 1) % 64)) ≡ t → KnowsNow a k (cond t StoreAccepted LoadTail)
      by_test true e =
          elim (boots_as a k places seen b) [
            | inl before ↦ elim (or_cases seen _ (and_parts _ _ e).1) [
              | inl found ↦ absurd (omega (arith, b.seen_one found, before.0))
              | inr acked ↦ absurd (ack_behind h.source a (omega (arith, h.queue.room, h.small)) (eqb-true _ _ acked) before.0)
            ]
            | inr late ↦ record { word = b.word; accepted = late.0; next = late.1 }
          ]
      by_test false e =
          elim (boots_as a k places seen b) [
            | inl before ↦ record { word = b.word; accepted = before.0; next = before.1 }
            | inr late ↦
                let left : nat_lt k readings ≡ true = lt-ltb _ _ (omega (arith, late.1, h.ordered.next)) in
                let found : (seen || v.ack == (a + 1) % 64) ≡ true = elim (b.unseen_one late.0) [
                  | inl before ↦ or_left seen _ before
                  | inr (inl x) ↦ absurd (omega (arith, x.3, mod-lt (v.queue.released + x.0) h.some))
                  | inr (inr y) ↦ or_right seen _ (eq-eqb _ _ y)
                ] in
                absurd (false≢true (sym e ∙ and_from _ _ left found))
          ]

  -- the load of TAIL
  pub own_tail : (a k : ℕ) → k < readings → KnowsNow a k LoadTail → KnowsNow a k (LoadSlot v.tail)
  own_tail a k left r = (r, left, omega arith)

  tail_at_most : v.tail ≤ published v.queue
  tail_at_most = omega (arith, h.queue.tail_near)

  look : (p : ℕ) → p ≤ v.tail → Look places slot v.tail v.queue p
  look p low = by_slot (slot_is h.queue (p % places) (mod-lt p h.some))
    where
      by_slot : SlotIs places slot v.queue (p % places) → Look places slot v.tail v.queue p
      by_slot (IsEmpty x above below at is) =
          elim (cases_eq x p) [
            | inl same ↦ Free (is ∙ ap empty_word same) (read_free (p % places) x below is ∙ ap (λ (y : ℕ). Some (Empty y)) same) (omega (arith, tail_at_most)) (omega (arith, tail_at_most)) (omega (arith, tail_at_most))
            | inr other ↦
                let before : p < published v.queue = elim (cases_lt p (published v.queue)) [
                  | inl lt ↦ lt
                  | inr ge ↦ absurd (other (same_position places v.queue.released x p (omega arith) below (omega (arith, tail_at_most)) (omega (arith, tail_at_most)) at))
                ] in
                let read = read_free (p % places) x below is in
                Passed before (λ e. other (let e' : empty_word x ≡ empty_word p = sym is ∙ e in omega arith)) (λ y i c z r f. let e' : Some (Empty x) ≡ Some (Full y i c z) = sym read ∙ r in cc) (λ y r f. let e' : Some (Empty x) ≡ Some (Empty y) = sym read ∙ r in other (let same : x ≡ y = cc in same ∙ f))
          ]
      by_slot (Holds k lt at is) =
          elim (cases_eq (v.queue.released + k + places) p) [
            | inl turn ↦
                let zero_k : v.queue.released + k ≡ v.queue.released = omega (arith, tail_at_most, h.queue.room) in
                let first : k ≡ 0 = omega arith in
                Turn (read_held (p % places) k lt is ∙ ap (λ (y : ℕ). Some (event_slot (v.queue.released + y) (event_at v.queue.held y))) first ∙ ap (λ (y : ℕ). Some (event_slot y (event_at v.queue.held 0))) (let e : v.queue.released + 0 ≡ v.queue.released = omega arith in e)) (omega (arith, tail_at_most, h.queue.room)) (omega (arith, tail_at_most, h.queue.room))
            | inr other ↦
                let before : p < published v.queue = elim (cases_lt p (published v.queue)) [
                  | inl before ↦ before
                  | inr ge ↦ elim (cases_lt (length v.queue.held) places) [
                    | inl free ↦ absurd (omega (arith, same_position places v.queue.released (v.queue.released + k) p (omega arith) (omega arith) (omega (arith, tail_at_most)) (omega (arith, tail_at_most)) at, tail_at_most))
                    | inr full_now ↦
                        let turn : v.queue.released + places ≡ p = omega (arith, tail_at_most, h.queue.room) in
                        let same : (v.queue.released + k) % places ≡ v.queue.released % places = at ∙ ap (λ y. y % places) (sym turn) ∙ next_turn places v.queue.released in
                        absurd (other (omega (arith, same_position places v.queue.released (v.queue.released + k) v.queue.released (omega arith) (omega (arith, h.queue.room)) (omega arith) (omega (arith, h.some)) same)))
                  ]
                ] in
                let read = read_held (p % places) k lt is in
                Passed before (λ e. event_word-≢-empty_word (v.queue.released + k) (event_at v.queue.held k) p (h.fits k lt) (omega (arith, before, h.queue.room, h.positions)) (sym is ∙ e)) (λ y i c z r f. let e' : Some (event_slot (v.queue.released + k) (event_at v.queue.held k)) ≡ Some (Full y i c z) = sym read ∙ r in let same : v.queue.released + k ≡ y = cc in other (omega arith)) (λ y r f. let e' : Some (event_slot (v.queue.released + k) (event_at v.queue.held k)) ≡ Some (Empty y) = sym read ∙ r in cc)
          ]

  -- the load of the tail's slot: without a refusal
  pub own_slot : (a k p : ℕ) → KnowsNow a k (LoadSlot p) → is_full_at places p (slot_in (slot (p % places))) ≡ false → KnowsNow a k (after_slot places p (slot_in (slot (p % places))))
  own_slot a k p r goes = by_look (look p r.2)
    where
      by_look : Look places slot v.tail v.queue p → KnowsNow a k (after_slot places p (slot_in (slot (p % places))))
      by_look (Free is read at room tail-is) = subst (KnowsNow a k) (sym (ap (after_slot places p) read ∙ ap (λ (t : Bool). cond t (Publish p) (HelpTail p)) (eq-eqb p p refl))) (r.0, r.1, r.2, omega arith)
      by_look (Turn read at all) = absurd (true≢false (sym (ap (is_full_at places p) read ∙ eq-eqb _ _ at) ∙ goes))
      by_look (Passed before not_free not_full not_empty) = subst (KnowsNow a k) (sym (passed_row places p (slot_in (slot (p % places))) not_full not_empty)) (r.0, r.1, before)

  -- with one: the queue is full
  pub own_refuse : (a k p : ℕ) → KnowsNow a k (LoadSlot p) → is_full_at places p (slot_in (slot (p % places))) ≡ true → (after_slot places p (slot_in (slot (p % places))) ≡ StoreSkip) × (length v.queue.held ≡ places)
  own_refuse a k p r found = by_look (look p r.2)
    where
      by_look : Look places slot v.tail v.queue p → (after_slot places p (slot_in (slot (p % places))) ≡ StoreSkip) × (length v.queue.held ≡ places)
      by_look (Free is read at room tail-is) = absurd (false≢true (sym (ap (is_full_at places p) read) ∙ found))
      by_look (Turn read at all) = (ap (after_slot places p) read ∙ ap (λ (t : Bool). cond t StoreSkip (HelpTail p)) (eq-eqb _ _ at), all)
      by_look (Passed before not_free not_full not_empty) = absurd (true≢false (sym found ∙ passed_no places p (slot_in (slot (p % places))) not_full))

  -- the exchange that publishes: won
  pub own_won : (p : ℕ) → p ≤ v.tail → slot (p % places) ≡ empty_word p → (published v.queue ≡ p) × (length v.queue.held < places) × (v.tail ≡ p)
  own_won p low is = by_look (look p low)
    where
      by_look : Look places slot v.tail v.queue p → (published v.queue ≡ p) × (length v.queue.held < places) × (v.tail ≡ p)
      by_look (Free _ read at room tail-is) = (at, room, tail-is)
      by_look (Turn read at all) = let e : Some (event_slot v.queue.released (event_at v.queue.held 0)) ≡ Some (Empty p) = sym read ∙ (ap slot_in is ∙ slot_in-empty p (omega (arith, tail_at_most, h.queue.room, h.positions))) in absurd cc
      by_look (Passed before not_free not_full not_empty) = absurd (not_free is)

  -- and lost
  pub own_lost : (p : ℕ) → p ≤ v.tail → p < v.queue.released + places → (slot (p % places) ≡ empty_word p → ⊥) → p < published v.queue
  own_lost p low below lost =
      elim (cases_lt p (published v.queue)) [
        | inl before ↦ before
        | inr free ↦ absurd (lost (h.queue.empty_slots p free below))
      ]
