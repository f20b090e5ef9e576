-- What a queue's words are after each step on it.
use Rattle.std.proofs.Common.{◌≡◌, inl, inr, ℕ, suc, ◌+◌, ◌-◌, ◌%◌, ◌<◌, ◌≤◌, [], ◌∷◌, ◌++◌, length, drop, refl, sym, ap, ◌∙◌, subst, arith, length-append, length-drop, one-add, get_or-drop}
use Rattle.std.proofs.lemmas.Bool.{cases_lt}
use Rattle.std.proofs.lemmas.List.{get_or_append_left, get_or_push}
use Rattle.fram_words.specs.Changes.{Becomes}
use Rattle.ink_base.specs.declared.event.Event.{Event}
use Rattle.push_core.specs.Slots.{empty_word}
use Rattle.push_core.specs.Queue.{Queue, published, event_at, no_event, event_word, StandsQueue, with_event, without_first, with_finished}
use Rattle.push_core.proofs.Rings.{same_position, position_of, next_turn}

-- what a slot holds: the event of one position, or the empty word of one
pub data SlotIs (places : ℕ) (slot : ℕ → ℕ) (q : Queue) (n : ℕ) : Type 0 where
  Holds : (k : ℕ) → k < length q.held → (q.released + k) % places ≡ n → slot n ≡ event_word (q.released + k) (event_at q.held k) → SlotIs places slot q n
  IsEmpty : (s : ℕ) → published q ≤ s → s < q.released + places → s % places ≡ n → slot n ≡ empty_word s → SlotIs places slot q n

module _ {places : ℕ} {slot : ℕ → ℕ} {tail : ℕ} {q : Queue} (h : StandsQueue places slot tail q) where
  pub slot_is : (n : ℕ) → n < places → SlotIs places slot q n
  slot_is n lt =
      let at = position_of places q.released n lt in
      elim (cases_lt at.0 (published q)) [
        | inl held ↦
            let k = at.0 - q.released in
            let same : q.released + k ≡ at.0 = omega (arith, at.1) in
            let here : (q.released + k) % places ≡ n = ap (λ x. x % places) same ∙ at.3 in
            Holds k (omega (arith, at.1, held)) here (ap slot (sym here) ∙ h.full_slots k (omega (arith, at.1, held)))
        | inr free ↦ IsEmpty at.0 free at.2 at.3 (ap slot (sym at.3) ∙ h.empty_slots at.0 free at.2)
      ]

  -- nothing of it changes
  pub queue_same : {slot' : ℕ → ℕ} {tail' : ℕ} {q' : Queue} → ((n : ℕ) → slot' n ≡ slot n) → tail' ≡ tail → q' ≡ q → StandsQueue places slot' tail' q'
  queue_same es et eq = subst (λ (x : (ℕ → ℕ) × ℕ × Queue). StandsQueue places x.0 x.1 x.2) (sym (λ i. ((λ n. es n i), et i, eq i))) h

  -- an event is published
  pub queue_push : {slot' : ℕ → ℕ} (e : Event) → length q.held < places → tail ≡ published q → Becomes (published q % places) (event_word (published q) e) slot slot' → StandsQueue places slot' tail (with_event q e)
  queue_push {slot'} e room at b =
      let len : length (q.held ++ e ∷ []) ≡ suc (length q.held) = omega (arith, length-append q.held (e ∷ [])) in
      record {
        room = omega arith;
        full_slots = λ k lt.
            elim (cases_lt k (length q.held)) [
              | inl before ↦
                  b.elsewhere ((q.released + k) % places) (λ same. absurd (omega (arith, same_position places q.released (q.released + k) (published q) (omega arith) (omega arith) (omega arith) (omega arith) same)))
                  ∙ h.full_slots k before
                  ∙ ap (event_word (q.released + k)) (sym (get_or_append_left q.held (e ∷ []) no_event k before))
              | inr last ↦
                  let same : length q.held ≡ k = omega arith in
                  subst (λ (j : ℕ). slot' ((q.released + j) % places) ≡ event_word (q.released + j) (event_at (q.held ++ e ∷ []) j)) same (b.here ∙ ap (event_word (published q)) (sym (get_or_push q.held e no_event (length q.held) refl)))
            ];
        empty_slots = λ s above below.
            b.elsewhere (s % places) (λ same. absurd (omega (arith, same_position places q.released s (published q) (omega arith) (omega arith) (omega arith) (omega arith) same)))
            ∙ h.empty_slots s (omega arith) below;
        tail_near = inr (omega arith);
      }

  -- the tail is moved to the next position
  pub queue_tail : tail < published q → StandsQueue places slot (tail + 1) q
  queue_tail behind = record { room = h.room; full_slots = h.full_slots; empty_slots = h.empty_slots; tail_near = inl (omega (arith, h.tail_near)) }

  -- the first event is finished
  pub queue_finish : StandsQueue places slot tail (with_finished q)
  queue_finish = record { room = h.room; full_slots = h.full_slots; empty_slots = h.empty_slots; tail_near = h.tail_near }

  -- the first event is released
  pub queue_release : {slot' : ℕ → ℕ} → 0 < length q.held → Becomes (q.released % places) (empty_word (q.released + places)) slot slot' → StandsQueue places slot' tail (without_first q)
  queue_release {slot'} some b =
      let len : suc (length (drop 1 q.held)) ≡ length q.held = omega (arith, length-drop 1 q.held) in
      record {
        room = omega (arith, h.room);
        full_slots = λ k lt.
            let same : q.released + suc k ≡ q.released + 1 + k = omega arith in
            b.elsewhere ((q.released + 1 + k) % places) (λ e. absurd (omega (arith, same_position places q.released (q.released + 1 + k) q.released (omega arith) (omega (arith, h.room)) (omega arith) (omega (arith, h.room)) e)))
            ∙ subst (λ (p : ℕ). slot (p % places) ≡ event_word p (event_at q.held (suc k))) same (h.full_slots (suc k) (omega arith))
            ∙ ap (event_word (q.released + 1 + k)) (sym (get_or-drop 1 q.held k no_event ∙ ap (event_at q.held) (one-add k)));
        empty_slots = λ s above below.
            elim (cases_lt s (q.released + places)) [
              | inl before ↦
                  b.elsewhere (s % places) (λ e. absurd (omega (arith, same_position places q.released s q.released (omega arith) before (omega arith) (omega arith) e)))
                  ∙ h.empty_slots s (omega arith) before
              | inr last ↦
                  let same : q.released + places ≡ s = omega arith in
                  subst (λ (p : ℕ). slot' (p % places) ≡ empty_word p) same (ap slot' (next_turn places q.released) ∙ b.here)
            ];
        tail_near = elim h.tail_near [ inl e ↦ inl (omega arith) | inr e ↦ inr (omega arith) ];
      }
