-- What a source knows stays true whatever the others do.
use Rattle.source_laws.proofs.Common.{◌≡◌, inl, inr, ℕ, zero, suc, ◌+◌, ◌%◌, ◌<◌, ◌≤◌, Bool, [], ◌∷◌, length, drop, sym, ap, ◌∙◌, subst, arith, length-append, length-drop, one-add, get_or-drop, get_or_append_left, Stage, LoadSlots, LoadAck, LoadSlot, Publish, MoveTail, HelpTail, Event, Queue, published, event_at, no_event, IsNumber, IsFinishing, KeepsNumbers, with_event, without_first, with_finished, number_source, number_count, finishing_some, finishing_source, finishing_count, Near, KnowsAt, Boots, IsShown}
use Rattle.ink_base.specs.declared.limits.TheConstants as limits
use Rattle.source_laws.proofs.Numbers.{numbered_range, numbered_at, numbered_release_own}

-- what a source sees after the others have changed TAIL, its ACK and its queue
abbrev pub changed : Near → (tail ack : ℕ) → Queue → Near
changed n tail ack q = record n { tail = tail; ack = ack; queue = q }

-- counts rise, and what was to be seen is still to be seen or acknowledged
pub record Drifts (i places : ℕ) (n : Near) (tail ack : ℕ) (q : Queue) : Type 0 where
  pub tail_up : n.tail ≤ tail
  pub released_up : n.queue.released ≤ q.released
  pub published_up : published n.queue ≤ published q
  pub shown : (a slot : ℕ) → n.source.accepted ≡ a + 1 → IsShown i places n a slot → IsShown i places (changed n tail ack q) a slot

module _ {i places : ℕ} {n : Near} {tail ack : ℕ} {q : Queue} (d : Drifts i places n tail ack q) where
  boots_drift : (a k slot : ℕ) (seen : Bool) → Boots i places n a k slot seen → Boots i places (changed n tail ack q) a k slot seen
  boots_drift a k slot seen h = record {
    word = h.word;
    small = h.small;
    seen_one = h.seen_one;
    unseen_one = λ one. elim (h.unseen_one one) [ inl found ↦ inl found | inr rest ↦ inr (d.shown a slot one rest) ];
  }

  pub knows_drift : (readings a k : ℕ) (stage : Stage) → KnowsAt i places readings n a k stage → KnowsAt i places readings (changed n tail ack q) a k stage
  knows_drift readings a k (LoadSlots slot seen) h = (boots_drift a k slot seen h.0, h.1)
  knows_drift readings a k (LoadAck seen) h = boots_drift a k places seen h
  knows_drift readings a k (LoadSlot p) h = (h.0, h.1, omega (arith, h.2, d.tail_up))
  knows_drift readings a k (Publish p) h = (h.0, h.1, omega (arith, h.2, d.tail_up), omega (arith, h.3, d.released_up))
  knows_drift readings a k (MoveTail p) h = (h.0, omega (arith, h.1, d.published_up))
  knows_drift readings a k (HelpTail p) h = (h.0, h.1, omega (arith, h.2, d.published_up))
  knows_drift readings a k _ h = h

module _ (i places : ℕ) (n : Near) where
  -- the tail moves
  pub drift_tail : (tail : ℕ) → n.tail ≤ tail → Drifts i places n tail n.ack n.queue
  drift_tail tail up = record { tail_up = up; released_up = omega arith; published_up = omega arith; shown = λ a slot one h. h }

  -- an event is published
  pub drift_push : (e : Event) → Drifts i places n n.tail n.ack (with_event n.queue e)
  drift_push e = record {
    tail_up = omega arith;
    released_up = omega arith;
    published_up = omega (arith, length-append n.queue.held (e ∷ []));
    shown = λ a slot one h. elim h [
      | inl x ↦
          let same = get_or_append_left n.queue.held (e ∷ []) no_event x.0 x.1 in
          inl (x.0, omega (arith, x.1, length-append n.queue.held (e ∷ [])), ap (λ (y : Event). y.origin) same ∙ x.2, x.3)
      | inr y ↦ inr y
    ];
  }

  -- the first event is finished
  pub drift_finish : Drifts i places n n.tail n.ack (with_finished n.queue)
  drift_finish = record { tail_up = omega arith; released_up = omega arith; published_up = omega arith; shown = λ a slot one h. h }

  -- the source's finished event is acknowledged
  pub drift_ack : (ack count : ℕ) → IsFinishing i count n.queue → length n.queue.held ≤ limits.QUEUE_PLACES → ack ≡ (count + 1) % 64 → KeepsNumbers i n.src n.ack n.queue n.source → Drifts i places n n.tail ack n.queue
  drift_ack ack count f room is h =
      let c = numbered_release_own i n.queue.held h.gone n.source.accepted (finishing_some f) (finishing_source f) h.numbered in
      let r = numbered_range i n.queue.held h.gone n.source.accepted h.numbered in
      let t = numbered_at i n.queue.held h.gone n.source.accepted 0 h.numbered (finishing_some f) (finishing_source f) in
      let last : (a : ℕ) → n.source.accepted ≡ a + 1 → n.ack ≡ (a + 1) % 64 → ack ≡ (a + 1) % 64 = λ a one old.
      elim h.ack_is [
        | inl e ↦ absurd (omega (arith, e, old, one, r.0, r.1, t.1, t.2))
        | inr p ↦ omega (arith, p.1, old, c.0, is, finishing_count f)
      ] in
      record { tail_up = omega arith; released_up = omega arith; published_up = omega arith; shown = λ a slot one x. elim x [ inl y ↦ inl y | inr old ↦ inr (last a one old) ] }

  -- the finished event is released, which ACK counts where it is the source's
  ahead_release : (own count a slot j : ℕ) → IsFinishing own count n.queue → (own ≡ i → n.ack ≡ (count + 1) % 64) → j < length n.queue.held →
      IsNumber i a (event_at n.queue.held j) → slot ≤ (n.queue.released + j) % places → IsShown i places (record n { queue = without_first n.queue }) a slot
  ahead_release own count a slot zero f acked lt is before =
      let first : Event = event_at n.queue.held 0 in
      let e = acked (sym (finishing_source f) ∙ number_source i a first is) in
      inr (omega (arith, e, finishing_count f, number_count i a first is))
  ahead_release own count a slot (suc j) f acked lt is before =
      let same : event_at (drop 1 n.queue.held) j ≡ event_at n.queue.held (suc j) = get_or-drop 1 n.queue.held j no_event ∙ ap (event_at n.queue.held) (one-add j) in
      inl (
        j,
        omega (arith, lt, length-drop 1 n.queue.held),
        ap (λ (y : Event). y.origin) same ∙ is,
        subst (λ (x : ℕ). slot ≤ x % places) (let e : n.queue.released + suc j ≡ n.queue.released + 1 + j = omega arith in e) before,
      )

  pub drift_release : (own count : ℕ) → IsFinishing own count n.queue → (own ≡ i → n.ack ≡ (count + 1) % 64) → Drifts i places n n.tail n.ack (without_first n.queue)
  drift_release own count f acked = record {
    tail_up = omega arith;
    released_up = omega arith;
    published_up = omega (arith, finishing_some f, length-drop 1 n.queue.held);
    shown = λ a slot one h. elim h [ inl x ↦ ahead_release own count a slot x.0 f acked x.1 x.2 x.3 | inr y ↦ inr y ];
  }
