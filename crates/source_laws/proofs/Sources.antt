-- What a source's two words are after each step on it or on its queue, and what they tell.
use Rattle.source_laws.proofs.Common.{◌≡◌, ◌⊎◌, inl, inr, ℕ, ◌+◌, ◌/◌, ◌%◌, ◌^◌, ◌<◌, ◌≤◌, length, drop, refl, sym, ap, ◌∙◌, subst, arith, cases_lt, src_word, Event, Queue, Source, event_at, event_source, event_count, HoldsNumber, Numbered, IsFinishing, Stored, KeepsNumbers, with_event, without_first, with_finished, with_accepted, finishing_some, finishing_source, finishing_count, finishing_push}
use Rattle.ink_base.specs.declared.limits.TheConstants as limits
use Rattle.source_laws.proofs.Numbers.{numbered_range, numbered_at, numbered_last, numbered_push_own, numbered_push_other, numbered_release_own, numbered_release_other}

-- the two numbers of SRC
pub src_parts : (a k : ℕ) → a < 2 ^ 32 → (src_word a k % 2 ^ 32 ≡ a) × (src_word a k / 2 ^ 32 ≡ k)
src_parts a k lt = (omega arith, omega arith)

src_apart : (a k b l : ℕ) → a < 2 ^ 32 → b < 2 ^ 32 → src_word a k ≡ src_word b l → (a ≡ b) × (k ≡ l)
src_apart a k b l ha hb e = (omega arith, omega arith)

module _ {i src ack : ℕ} {q : Queue} {s : Source} (h : KeepsNumbers i src ack q s) where
  -- the source publishes an event; SRC doesn't count it yet
  pub source_push_own : (e : Event) → src ≡ src_word s.accepted s.next → event_source e ≡ i → event_count e ≡ s.accepted % 64
      → KeepsNumbers i src ack (with_event q e) (with_accepted s)
  source_push_own e ready own count = record {
    gone = h.gone;
    numbered = numbered_push_own i q.held h.gone s.accepted e own count h.numbered;
    ack_is = elim h.ack_is [ inl same ↦ inl same | inr p ↦ inr (finishing_push p.0 e, p.1) ];
    stored = (s.accepted, s.next, ready, inr (refl, refl));
  }

  pub source_push_other : (e : Event) → (event_source e ≡ i → ⊥) → KeepsNumbers i src ack (with_event q e) s
  source_push_other e other = record {
    gone = h.gone;
    numbered = numbered_push_other i q.held h.gone s.accepted e other h.numbered;
    ack_is = elim h.ack_is [ inl same ↦ inl same | inr p ↦ inr (finishing_push p.0 e, p.1) ];
    stored = h.stored;
  }

  -- SRC is stored, or a reading is refused or skipped
  pub source_store : (stored_src : ℕ) (next : Source) → next.accepted ≡ s.accepted → Stored stored_src next → KeepsNumbers i stored_src ack q next
  source_store stored_src next same stored = record {
    gone = h.gone;
    numbered = subst (λ (k : ℕ). Numbered i q.held h.gone k) (sym same) h.numbered;
    ack_is = h.ack_is;
    stored = stored;
  }

  -- the queue's first event is finished
  pub source_finish : KeepsNumbers i src ack (with_finished q) s
  source_finish = record {
    gone = h.gone;
    numbered = h.numbered;
    ack_is = elim h.ack_is [ inl same ↦ inl same | inr p ↦ inr (record { value = p.0.value; first = p.0.first; finished = refl }, p.1) ];
    stored = h.stored;
  }

  -- the number of the source's first event
  first_count : (count : ℕ) → IsFinishing i count q → (count ≡ h.gone % 64) × Numbered i (drop 1 q.held) (h.gone + 1) s.accepted
  first_count count f =
      let first = numbered_release_own i q.held h.gone s.accepted (finishing_some f) (finishing_source f) h.numbered in
      (sym (finishing_count f) ∙ first.0, first.1)

  -- the kernel acknowledges the source's finished event
  pub source_ack : (now count : ℕ) → IsFinishing i count q → now ≡ (count + 1) % 64 → KeepsNumbers i src now q s
  source_ack now count f is =
      let first = (first_count count f).0 in
      record { gone = h.gone; numbered = h.numbered; ack_is = inr (subst (λ (c : ℕ). IsFinishing i c q) first f, omega (arith, is, first)); stored = h.stored }

  -- the kernel releases it
  pub source_release_own : (count : ℕ) → IsFinishing i count q → ack ≡ (count + 1) % 64 → KeepsNumbers i src ack (without_first q) s
  source_release_own count f is =
      let first = first_count count f in record { gone = h.gone + 1; numbered = first.1; ack_is = inl (omega (arith, is, first.0)); stored = h.stored }

  pub source_release_other : 0 < length q.held → (event_source (event_at q.held 0) ≡ i → ⊥) → KeepsNumbers i src ack (without_first q) s
  source_release_other some other = record {
    gone = h.gone;
    numbered = numbered_release_other i q.held h.gone s.accepted some other h.numbered;
    ack_is = elim h.ack_is [ inl same ↦ inl same | inr p ↦ absurd (other (finishing_source p.0)) ];
    stored = h.stored;
  }

  -- an own event with the count a is there only where it counts as accepted
  pub own_count : (a j : ℕ) → length q.held ≤ limits.QUEUE_PLACES → j < length q.held → event_source (event_at q.held j) ≡ i → event_count (event_at q.held j) ≡ a % 64 → s.accepted ≡ a → ⊥
  own_count a j room lt own count same =
      let t = numbered_at i q.held h.gone s.accepted j h.numbered lt own in
      let r = numbered_range i q.held h.gone s.accepted h.numbered in
      omega (arith, t.1, t.2, t.3, r.0, r.1)

  -- ACK isn't one more than the accepted number
  pub ack_behind : (a : ℕ) → length q.held ≤ limits.QUEUE_PLACES → ack ≡ (a + 1) % 64 → s.accepted ≡ a → ⊥
  ack_behind a room is same =
      let r = numbered_range i q.held h.gone s.accepted h.numbered in
      elim h.ack_is [
        | inl all ↦ omega (arith, r.0, r.1)
        | inr p ↦
            let t = numbered_at i q.held h.gone s.accepted 0 h.numbered (finishing_some p.0) (finishing_source p.0) in
            omega (arith, t.1, t.2, r.0, r.1, p.1)
      ]

  -- the last accepted event is held, or acknowledged
  pub last_one : (a : ℕ) → i < 256 → s.accepted ≡ a + 1 → HoldsNumber i a q.held ⊎ (ack ≡ (a + 1) % 64)
  last_one a few same =
      let numbered : Numbered i q.held h.gone (a + 1) = subst (λ (x : ℕ). Numbered i q.held h.gone x) same h.numbered in
      let r = numbered_range i q.held h.gone (a + 1) numbered in
      elim (cases_lt h.gone (a + 1)) [
        | inl some ↦ inl (numbered_last i q.held h.gone a few numbered some)
        | inr none ↦
            elim h.ack_is [
              | inl all ↦ inr (all ∙ ap (λ x. x % 64) (let e : h.gone ≡ a + 1 = omega (arith, r.0) in e))
              | inr p ↦ let t = numbered_at i q.held h.gone s.accepted 0 h.numbered (finishing_some p.0) (finishing_source p.0) in absurd (omega (arith, t.1, t.2, r.0, r.1))
            ]
      ]

  -- where SRC has a and k, the source has accepted and settled these numbers, or one more of both
  pub stored_as : (a k : ℕ) → a < 2 ^ 32 → s.accepted < 2 ^ 32 → src ≡ src_word a k
      → ((s.accepted ≡ a) × (s.next ≡ k)) ⊎ ((s.accepted ≡ a + 1) × (s.next ≡ k + 1))
  stored_as a k ha hs is =
      let st = h.stored in
      elim st.3 [
        | inl p ↦ let t = src_apart st.0 st.1 a k (omega (arith, p.0)) ha (sym st.2 ∙ is) in inl (p.0 ∙ t.0, p.1 ∙ t.1)
        | inr p ↦ let t = src_apart st.0 st.1 a k (omega (arith, p.0)) ha (sym st.2 ∙ is) in inr (p.0 ∙ ap (λ n. n + 1) t.0, p.1 ∙ ap (λ n. n + 1) t.1)
      ]
