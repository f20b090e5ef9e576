-- Each stage of the renewal goes on by one store, and together they renew the words.
use Rattle.old_image.proofs.Common.{◌≡◌, ◌≢◌, inl, inr, ℕ, suc, ◌+◌, ◌-◌, ◌%◌, ◌<◌, ◌≤◌, ◌==◌, Bool, true, false, length, get_or, refl, sym, ap, ◌∙◌, subst, arith, eq-eqb, cases_eq, cases_lt, Memory, Place, Page, Code, Commit, Log, Ring, Tail, Slot, Ack, Clock, Src, src_word, Program, thread_def, committed, place_in, empty_word, own_old, old_held, old_held_for, old_next, old_released, HasSourceChain, IsRenewed, Stays, origin_place, place_behind, renewed_word, without_reading}
use Rattle.fram_words.specs.Header as header
use Rattle.fram_words.specs.Changes.{Becomes}
use Rattle.push_core.proofs.Rings.{same_position}
use Rattle.old_image.specs.kept.Stages.{IsNoSource, SourcesRenewed, IsNoOrigin, OriginsRenewed, HasNewSlots, IsNoSlotOf, SlotsRenewed, IsNoSlot, QueuesRenewed}

-- a place that isn't this one
other_src : (i j : ℕ) → i ≢ j → Src i ≢ Src j
other_src i j ne e = ne (cc)

other_ack : (i j : ℕ) → i ≢ j → Ack i ≢ Ack j
other_ack i j ne e = ne (cc)

no_src : (i : ℕ) (p : Place) → IsNoSource p → p ≢ Src i
no_src i p none e = absurd (subst IsNoSource e none)

no_ack : (i : ℕ) (p : Place) → IsNoSource p → p ≢ Ack i
no_ack i p none e = absurd (subst IsNoSource e none)

src_no_ack : (i j : ℕ) → Src i ≢ Ack j
src_no_ack i j e = absurd (cc)

module _ (program : Program) (old before : Memory) where
  pub sources_begin : SourcesRenewed program old before before 0
  sources_begin = record { srcs = λ i lt. absurd (omega arith); acks = λ i lt. absurd (omega arith); same = λ p none. refl }

  -- one more source: its SRC and its ACK
  pub sources_more : (i src ack : ℕ) (after middle next : Memory) → SourcesRenewed program old before after i →
      src ≡ src_word (own_old i (old_held_for program old i)) (old_next program old i) → ack ≡ 0 →
      Becomes (Src i) src after middle → Becomes (Ack i) ack middle next → SourcesRenewed program old before next (i + 1)
  sources_more i src ack after middle next h is zero_ack a b = record {
    srcs = λ j lt. elim (cases_lt j i) [
      | inl less ↦ b.elsewhere (Src j) (src_no_ack j i) ∙ (a.elsewhere (Src j) (other_src j i (λ e. omega arith)) ∙ h.srcs j less)
      | inr more ↦
          let same : i ≡ j = omega arith in
          subst (λ n. next (Src n) ≡ src_word (own_old n (old_held_for program old n)) (old_next program old n)) same (b.elsewhere (Src i) (src_no_ack i i) ∙ (a.here ∙ is))
    ];
    acks = λ j lt. elim (cases_lt j i) [
      | inl less ↦ b.elsewhere (Ack j) (other_ack j i (λ e. omega arith)) ∙ (a.elsewhere (Ack j) (λ e. src_no_ack i j (sym e)) ∙ h.acks j less)
      | inr more ↦ let same : i ≡ j = omega arith in subst (λ n. next (Ack n) ≡ 0) same (b.here ∙ zero_ack)
    ];
    same = λ p none. b.elsewhere p (no_ack i p none) ∙ (a.elsewhere p (no_src i p none) ∙ h.same p none);
  }

abbrev thread_at : Place → ℕ
thread_at (Page t p b k) = t
thread_at _ = 0

-- the origins of different threads stand apart
other_origin : (old : Memory) (t u : ℕ) → t ≢ u → origin_place old t ≢ origin_place old u
other_origin old t u ne e = ne (ap thread_at e)

module _ (old before : Memory) where
  pub origins_begin : OriginsRenewed old before before 0
  origins_begin = record { origins = λ t lt. absurd (omega arith); same = λ p none. refl }

  -- one more thread: with the origin of its chain
  pub origins_more : (t word : ℕ) (after next : Memory) → OriginsRenewed old before after t → word ≡ without_reading (committed old t header.origin) →
      HasSourceChain old t → Becomes (origin_place old t) word after next → OriginsRenewed old before next (t + 1)
  origins_more t word after next h is chain a = record {
    origins = λ u lt its. elim (cases_lt u t) [
      | inl less ↦ a.elsewhere (origin_place old u) (other_origin old u t (λ e. omega arith)) ∙ h.origins u less its
      | inr more ↦
          let same : t ≡ u = omega arith in
          subst (λ n. next (origin_place old n) ≡ without_reading (committed old n header.origin)) same (a.here ∙ is)
    ];
    same = λ p none. a.elsewhere p (none t (omega arith) chain) ∙ h.same p (λ u lt its. none u (omega arith) its);
  }

  -- or without such a chain
  pub origins_over : (t : ℕ) (after : Memory) → OriginsRenewed old before after t → ¬ HasSourceChain old t → OriginsRenewed old before after (t + 1)
  origins_over t after h none_runs = record {
    origins = λ u lt its. elim (cases_lt u t) [
      | inl less ↦ h.origins u less its
      | inr more ↦ let same : u ≡ t = omega arith in absurd (none_runs (subst (HasSourceChain old) same its))
    ];
    same = λ p none. h.same p (λ u lt its. none u (omega arith) its);
  }

-- a slot of another index, and one of another thread
other_slot : (t n u k : ℕ) → n ≢ k → Slot t n ≢ Slot u k
other_slot t n u k ne e = ne (cc)

no_slot_of : (t n : ℕ) (p : Place) → IsNoSlotOf t p → p ≢ Slot t n
no_slot_of t n p none e = absurd ((subst (IsNoSlotOf t) e none) refl)

module _ (program : Program) (old before : Memory) where
  pub slots_begin : (t : ℕ) → SlotsRenewed program old before before t 0
  slots_begin t = record {
    slots = record { held = λ k lt. absurd (omega arith); empty = λ k lt. absurd (omega arith) };
    same = λ p none. refl;
  }

  -- two slots less than a turn apart
  behind_apart : (t j k : ℕ) → j < k → k < (thread_def program t).queue → place_behind program old t j ≢ place_behind program old t k
  behind_apart t j k less lt =
      other_slot t ((old_released program old t + j) % (thread_def program t).queue) t ((old_released program old t + k) % (thread_def program t).queue)
      (λ e.
      let same = same_position (thread_def program t).queue (old_released program old t) (old_released program old t + j) (old_released program old t + k)
      (omega arith) (omega arith) (omega arith) (omega arith) e in
      omega arith)

  -- one more slot
  pub slots_more : (t k word : ℕ) (after next : Memory) → SlotsRenewed program old before after t k → k < (thread_def program t).queue →
      (k < length (old_held program old t) → word ≡ renewed_word (old_released program old t + k) (old_held program old t) k) →
      (length (old_held program old t) ≤ k → word ≡ empty_word (old_released program old t + k)) →
      Becomes (place_behind program old t k) word after next → SlotsRenewed program old before next t (k + 1)
  slots_more t k word after next h room full free a = record {
    slots = record {
      held = λ j lt there. elim (cases_lt j k) [
        | inl less ↦ a.elsewhere (place_behind program old t j) (behind_apart t j k less room) ∙ h.slots.held j less there
        | inr more ↦
            let same : k ≡ j = omega arith in
            subst (λ n. next (place_behind program old t n) ≡ renewed_word (old_released program old t + n) (old_held program old t) n) same (a.here ∙ full (omega arith))
      ];
      empty = λ j lt behind. elim (cases_lt j k) [
        | inl less ↦ a.elsewhere (place_behind program old t j) (behind_apart t j k less room) ∙ h.slots.empty j less behind
        | inr more ↦
            let same : k ≡ j = omega arith in
            subst (λ n. next (place_behind program old t n) ≡ empty_word (old_released program old t + n)) same (a.here ∙ free (omega arith))
      ];
    };
    same = λ p none. a.elsewhere p (no_slot_of t ((old_released program old t + k) % (thread_def program t).queue) p none) ∙ h.same p none;
  }

  pub queues_begin : QueuesRenewed program old before before 0
  queues_begin = record { slots = λ t lt. absurd (omega arith); same = λ p none. refl }

  -- no slot at all is none of a thread
  none_of_thread : (t : ℕ) (p : Place) → IsNoSlot p → IsNoSlotOf t p
  none_of_thread t (Slot u n) none = absurd none
  none_of_thread t (Code x n) none = tt
  none_of_thread t (Commit u) none = tt
  none_of_thread t (Page u p b k) none = tt
  none_of_thread t (Log u n) none = tt
  none_of_thread t (Ring q n) none = tt
  none_of_thread t (Tail u) none = tt
  none_of_thread t (Ack i) none = tt
  none_of_thread t Clock none = tt
  none_of_thread t (Src i) none = tt

  -- one more queue
  pub queues_more : (t : ℕ) (after next : Memory) → QueuesRenewed program old before after t →
      SlotsRenewed program old after next t (thread_def program t).queue → QueuesRenewed program old before next (t + 1)
  queues_more t after next h a = record {
    slots = λ u lt. elim (cases_lt u t) [
      | inl less ↦
          let other : u ≢ t = λ e. omega arith in
          record {
            held = λ k in_turn there. a.same (place_behind program old u k) other ∙ (h.slots u less).held k in_turn there;
            empty = λ k in_turn behind. a.same (place_behind program old u k) other ∙ (h.slots u less).empty k in_turn behind;
          }
      | inr more ↦ let same : t ≡ u = omega arith in subst (λ n. HasNewSlots program old next n (thread_def program n).queue) same a.slots
    ];
    same = λ p none. a.same p (none_of_thread t p none) ∙ h.same p none;
  }

module _ (program : Program) (old first second new : Memory) (sources : SourcesRenewed program old old first (length program.sources))
    (origins : OriginsRenewed old first second (length program.threads)) (queues : QueuesRenewed program old second new (length program.threads)) where
  -- a word of a source, which the later stages leave
  kept_src : (i : ℕ) → new (Src i) ≡ first (Src i)
  kept_src i = queues.same (Src i) tt ∙ origins.same (Src i) (λ t lt chain e. absurd (cc))

  kept_ack : (i : ℕ) → new (Ack i) ≡ first (Ack i)
  kept_ack i = queues.same (Ack i) tt ∙ origins.same (Ack i) (λ t lt chain e. absurd (cc))

  -- a word that stays is kept by each stage
  kept_other : (p : Place) → IsNoSlot p → IsNoOrigin old (length program.threads) p → IsNoSource p → new p ≡ old p
  kept_other p no_slot no_origin no_source = queues.same p no_slot ∙ (origins.same p no_origin ∙ sources.same p no_source)

  kept : (p : Place) → Stays old p → new p ≡ old p
  kept (Slot t n) stays = absurd stays
  kept (Ack i) stays = absurd stays
  kept (Src i) stays = absurd stays
  kept (Page t p b k) stays =
      kept_other (Page t p b k) tt (λ u lt chain e.
      let same : u ≡ t = sym (ap thread_at e) in
      stays (subst (HasSourceChain old) same chain) (subst (λ n. Page t p b k ≡ origin_place old n) same e)) tt
  kept (Code x n) stays = kept_other (Code x n) tt (λ u lt chain e. absurd (cc)) tt
  kept (Commit t) stays = kept_other (Commit t) tt (λ u lt chain e. absurd (cc)) tt
  kept (Log t n) stays = kept_other (Log t n) tt (λ u lt chain e. absurd (cc)) tt
  kept (Ring q n) stays = kept_other (Ring q n) tt (λ u lt chain e. absurd (cc)) tt
  kept (Tail t) stays = kept_other (Tail t) tt (λ u lt chain e. absurd (cc)) tt
  kept Clock stays = kept_other Clock tt (λ u lt chain e. absurd (cc)) tt

  pub all_renewed : ((t k : ℕ) → t < length program.threads → k < length (old_held program old t) → k < (thread_def program t).queue) → IsRenewed program old new
  all_renewed few = record {
    held = λ t k known lt. (queues.slots t known).held k (few t k known lt) lt;
    empty = λ t k known behind lt. (queues.slots t known).empty k lt behind;
    srcs = λ i known. kept_src i ∙ sources.srcs i known;
    acks = λ i known. kept_ack i ∙ sources.acks i known;
    origins = λ t known chain. queues.same (origin_place old t) tt ∙ origins.origins t known chain;
    same = kept;
  }
