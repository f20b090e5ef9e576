-- The queues that the renewed words tell: the same events, each with its place among those of its source as count.
use Rattle.old_image.proofs.Common.{◌≡◌, ◌≢◌, ◌⊎◌, inl, inr, ℕ, zero, suc, ◌+◌, ◌-◌, ◌/◌, ◌%◌, ◌^◌, ◌<◌, ◌≤◌, ◌==◌, ◌&&◌, nat_lt, Bool, true, false, List, [], ◌∷◌, length, take, Option, Some, None, refl, sym, ap, ◌∙◌, subst, arith, if◌then◌else◌, eq-eqb, ne_eqb, lt-ltb, ltb-true, and_from, and_parts, cases_Bool, cases_lt, add-mod_right, Memory, Slot, Tail, Program, thread_def, source_thread, Event, Origin, SourceId, origin_of, committed, empty_word, full_word, slot_in, slot_in-full, slot_in-empty, event_at, event_source, event_count, published, IsAccepted, slot_of, is_full_of, event_in, events_from, told_finished, told_held, told_queue, told_released, flag, HasChain, IsQueueRight, IsServedFirst, IsFirstServed, OldEvent, feeds, own_old, old_event_at, old_finished, old_held, old_published, old_released, HasSourceChain, IsOldImage, IsRenewed}
use Rattle.ink_base.specs.declared.event.Origin.TheVariants as origins
use Rattle.fram_words.specs.Header as header
use Rattle.push_core.specs.declared.slot.Slot as slot
use Rattle.push_core.specs.declared.slot.Slot.TheVariants as slots
use Rattle.old_image.proofs.Lists.{AreLike, own_few}
use Rattle.old_image.proofs.OldQueues.{IsOldReadAt, held_read, held_few, old_finished_held}
use Rattle.old_image.proofs.NewBlocks.{committed_same, chain_before, by_source, none_of_source, origin_same, origin_back}

pub both_false : (a b : Bool) → (a ≡ true → b ≡ false) → (a && b) ≡ false
both_false true b h = h refl
both_false false b h = refl

-- the origin of another kind asks nothing of the first event
other_served : (held : List Event) (word value : ℕ) → (word / 2 ^ 56 == 1) ≡ false → IsServedFirst held (origin_of word) value
other_served held word value isnt = by_flag (word / 2 ^ 56 == 1) (word / 2 ^ 56 == 2) isnt
  where
    by_flag : (a b : Bool) → a ≡ false →
        IsServedFirst held (if a then origins.Source (record { 0 = word / 2 ^ 16 % 2 ^ 8 }) (word % 2 ^ 8)
        else (if b then origins.Pipe (record { 0 = word / 2 ^ 32 % 2 ^ 8 }) (word % 2 ^ 32) else origins.Timer (record { 0 = word / 2 ^ 48 % 2 ^ 8 }) (word % 2 ^ 48))) value
    by_flag true b is = absurd (let clash : true ≡ false = is in cc)
    by_flag false true is = tt
    by_flag false false is = tt

-- what slots tell from a position on
record AreTold (program : Program) (words : Memory) (t p most : ℕ) (count : ℕ) (event : ℕ → Event) : Type 0 where
  pub count_is : length (events_from program words t p most) ≡ count
  pub events : (k : ℕ) → k < count → event_at (events_from program words t p most) k ≡ event k

module _ (program : Program) (words : Memory) (t : ℕ) where
  -- an event and those behind it, or none
  abbrev followed : (p most : ℕ) → Option Event → List Event
  followed p most None = []
  followed p most (Some e) = e ∷ events_from program words t (p + 1) most

  -- so many events stand from a position on, and no more
  events_are : (most p count : ℕ) (event : ℕ → Event) → count ≤ most →
      ((k : ℕ) → k < count → event_in program t (p + k) (slot_of program words t (p + k)) ≡ Some (event k)) →
      (count < most → event_in program t (p + count) (slot_of program words t (p + count)) ≡ None) → AreTold program words t p most count event
  events_are zero p zero event few shown behind = record { count_is = refl; events = λ k lt. absurd (omega arith) }
  events_are zero p (suc count) event few shown behind = absurd (omega arith)
  events_are (suc most) p zero event few shown behind =
      let at : p + 0 ≡ p = omega arith in
      let none : event_in program t p (slot_of program words t p) ≡ None =
      subst (λ n. event_in program t n (slot_of program words t n) ≡ None) at (behind (omega arith)) in
      record { count_is = ap (λ o. length (followed p most o)) none; events = λ k lt. absurd (omega arith) }
  events_are (suc most) p (suc count) event few shown behind =
      let at : p + 0 ≡ p = omega arith in
      let here : event_in program t p (slot_of program words t p) ≡ Some (event 0) =
      subst (λ n. event_in program t n (slot_of program words t n) ≡ Some (event 0)) at (shown 0 (omega arith)) in
      let rest = events_are most (p + 1) count (λ k. event (suc k)) (omega arith)
      (λ k lt. subst (λ n. event_in program t n (slot_of program words t n) ≡ Some (event (suc k))) (let s : p + suc k ≡ p + 1 + k = omega arith in s) (shown (suc k) (omega arith)))
      (λ lt. subst (λ n. event_in program t n (slot_of program words t n) ≡ None) (let s : p + suc count ≡ p + 1 + count = omega arith in s) (behind (omega arith))) in
      record {
        count_is = ap (λ o. length (followed p most o)) here ∙ (let n = rest.count_is in omega arith);
        events = λ k lt. ap (λ o. event_at (followed p most o) k) here ∙ each rest.events k lt;
      }
    where
      each : ((k : ℕ) → k < count → event_at (events_from program words t (p + 1) most) k ≡ event (suc k)) →
          (k : ℕ) → k < suc count → event_at (event 0 ∷ events_from program words t (p + 1) most) k ≡ event k
      each more zero lt = refl
      each more (suc k) lt = more k (omega arith)

module _ (program : Program) (old new : Memory) (renewed : IsRenewed program old new) (accepted : IsAccepted program) (image : IsOldImage program old) where
  module _ (t : ℕ) (known : t < length program.threads) where
    places_some : 2 ≤ (thread_def program t).queue
    places_some = (accepted.threads t known).queue_least

    places_few : (thread_def program t).queue ≤ 32
    places_few = (accepted.threads t known).queue

    abbrev held : List OldEvent
    held = old_held program old t

    abbrev first : ℕ
    first = old_released program old t

    abbrev count_at : (k : ℕ) → ℕ
    count_at k = own_old (old_event_at held k).source.0 (take k held)

    -- the k-th event with its count
    abbrev pub new_event : (k : ℕ) → Event
    new_event k = record { origin = origins.Source (old_event_at held k).source (count_at k); value = (old_event_at held k).value }

    pub count_few : (k : ℕ) → k < length held → count_at k < 32
    count_few k lt = let le = own_few (old_event_at held k).source.0 k held in let few = held_few program old t in omega (arith, places_few)

    slot_full : (k : ℕ) → k < length held → slot_of program new t (first + k) ≡ Some (slots.Full (first + k) (old_event_at held k).source (count_at k) (old_event_at held k).value)
    slot_full k lt =
        let read = held_read program old t k lt in
        ap slot_in (renewed.held t k known lt)
        ∙ slot_in-full (first + k) (old_event_at held k).source (count_at k) (old_event_at held k).value
        (record { position_fits = read.fits.position_fits; source_fits = read.fits.source_fits; count_fits = omega (arith, count_few k lt) })
        (let small = read.fits.value_fits in omega arith)

    slot_free : (k : ℕ) → length held ≤ k → k < (thread_def program t).queue → slot_of program new t (first + k) ≡ Some (slots.Empty (first + k))
    slot_free k behind lt =
        ap slot_in (renewed.empty t k known behind lt) ∙ slot_in-empty (first + k) (((image.queues t known).slots k lt).fits behind)

    event_shown : (k : ℕ) → k < length held → event_in program t (first + k) (slot_of program new t (first + k)) ≡ Some (new_event k)
    event_shown k lt =
        let read = held_read program old t k lt in
        let i : ℕ = (old_event_at held k).source.0 in
        let test : ((first + k == first + k) && (nat_lt i (length program.sources) && (source_thread program i == t))) ≡ true =
        and_from (first + k == first + k) _ (eq-eqb _ _ refl) (and_from (nat_lt i (length program.sources)) _ (lt-ltb _ _ read.known) (eq-eqb _ _ read.own)) in
        ap (event_in program t (first + k)) (slot_full k lt) ∙ ap (λ (b : Bool). if b then Some (new_event k) else None) test

    events_told : AreTold program new t first (thread_def program t).queue (length held) new_event
    events_told =
        events_are program new t (thread_def program t).queue first (length held) new_event (held_few program old t) event_shown
        (λ lt. ap (event_in program t (first + length held)) (slot_free (length held) (omega arith) lt))

    ended_same : committed new t header.finished ≡ committed old t header.finished
    ended_same = committed_same program old new renewed t header.finished (omega arith)

    -- the test of the last finished event by the words of the renewed slots
    abbrev shows_finished : (f : ℕ) → Bool
    shows_finished f = nat_lt 0 f && is_full_of (f - 1) (slot_of program new t (f - 1))

    -- a slot that has another position has no event of this one
    other_shown : (p q : ℕ) (s : Option slot.Slot) → q ≢ p → (s ≡ Some (slots.Empty q)) ⊎ ((source : SourceId) × (count : ℕ) × (value : ℕ) × (s ≡ Some (slots.Full q source count value))) →
        is_full_of p s ≡ false
    other_shown p q s ne (inl is) = ap (is_full_of p) is
    other_shown p q s ne (inr is) = ap (is_full_of p) is.3 ∙ ne_eqb q p ne

    last_shown : (k : ℕ) → k < (thread_def program t).queue → (q : ℕ) → q ≡ first + k →
        (slot_of program new t q ≡ Some (slots.Empty q)) ⊎ ((source : SourceId) × (count : ℕ) × (value : ℕ) × (slot_of program new t q ≡ Some (slots.Full q source count value)))
    last_shown k lt q is =
        subst (λ n. (slot_of program new t n ≡ Some (slots.Empty n)) ⊎ ((source : SourceId) × (count : ℕ) × (value : ℕ) × (slot_of program new t n ≡ Some (slots.Full n source count value)))) (sym is)
        (elim (cases_lt k (length held)) [
          | inl there ↦ inr ((old_event_at held k).source, count_at k, (old_event_at held k).value, slot_full k there)
          | inr behind ↦ inl (slot_free k (omega arith) lt)
        ])

    finished_shown : (b : Bool) → old_finished program old t ≡ b → shows_finished (committed old t header.finished) ≡ b
    finished_shown true is =
        let f : ℕ = committed old t header.finished in
        let both = and_parts (nat_lt 0 f) _ is in
        let some : 0 < f = ltb-true _ _ both.0 in
        let there = old_finished_held program old t (image.queues t known) (omega (arith, places_some)) is in
        let counted : first ≡ f - 1 = ap (λ (b : Bool). f - flag b) is in
        let same : first + 0 ≡ f - 1 = omega (arith, counted) in
        let full : is_full_of (f - 1) (slot_of program new t (f - 1)) ≡ true =
        subst (λ n. is_full_of n (slot_of program new t n) ≡ true) same (ap (is_full_of (first + 0)) (slot_full 0 there) ∙ eq-eqb _ _ refl) in
        and_from (nat_lt 0 f) _ both.0 full
    finished_shown false is =
        let f : ℕ = committed old t header.finished in
        let counted : first ≡ f - 0 = ap (λ (b : Bool). f - flag b) is in
        both_false (nat_lt 0 f) (is_full_of (f - 1) (slot_of program new t (f - 1))) (λ positive.
        let some : 0 < f = ltb-true _ _ positive in
        let n : ℕ = (thread_def program t).queue in
        let turn : (f - 1 + n) % n ≡ (f - 1) % n = add-mod_right (f - 1) n in
        let last : f - 1 + n ≡ first + (n - 1) = omega (arith, counted, places_some) in
        let here : slot_of program new t (f - 1 + n) ≡ slot_of program new t (f - 1) = ap (λ z. slot_in (new (Slot t z))) turn in
        ap (is_full_of (f - 1)) (sym here)
        ∙ other_shown (f - 1) (f - 1 + n) (slot_of program new t (f - 1 + n)) (λ e. omega (arith, places_some)) (last_shown (n - 1) (omega (arith, places_some)) (f - 1 + n) last))

    pub finished_same : told_finished program new t ≡ old_finished program old t
    finished_same = ap shows_finished ended_same ∙ finished_shown (old_finished program old t) refl

    pub released_same : told_released program new t ≡ old_released program old t
    released_same =
        let one = ap flag finished_same in omega (arith, ended_same, one)

    held_from : AreTold program new t (told_released program new t) (thread_def program t).queue (length held) new_event
    held_from = subst (λ p. AreTold program new t p (thread_def program t).queue (length held) new_event) (sym released_same) events_told

    pub held_count : length (told_held program new t) ≡ length held
    held_count = held_from.count_is

    pub held_event : (k : ℕ) → k < length held → event_at (told_held program new t) k ≡ new_event k
    held_event = held_from.events

    pub held_like : AreLike (told_held program new t) held
    held_like = record { count = held_count; sources = λ k lt. ap event_source (held_event k lt) }

    pub published_same : published (told_queue program new t) ≡ old_published program old t
    published_same = omega (arith, released_same, held_count)

  module _ (t : ℕ) (known : t < length program.threads) where
    first_served : IsFirstServed program new t
    first_served runs =
        let before : HasChain old t = chain_before program old new renewed t runs in
        let word : ℕ = committed new t header.origin in
        let value : ℕ = committed new t header.value in
        by_source program old new renewed accepted image t known (IsServedFirst (told_held program new t) (origin_of word) value) before
        (λ chain.
        let served = (image.queues t known).served chain in
        let back = origin_back program old new renewed accepted image t known chain in
        let same : value ≡ (old_event_at (old_held program old t) 0).value = committed_same program old new renewed t header.value (omega arith) ∙ served.value in
        subst (λ o. IsServedFirst (told_held program new t) o value) (sym back) (
          let there = served.held in omega (arith, held_count t known),
          held_event t known 0 served.held ∙ ap (λ v. record { origin = origins.Source (old_event_at (old_held program old t) 0).source 0; value = v }) (sym same),
        ))
        (λ isnt.
        subst (λ n. IsServedFirst (told_held program new t) (origin_of n) value)
        (sym (origin_same program old new renewed t (none_of_source program old new renewed accepted image t known isnt)))
        (other_served (told_held program new t) (committed old t header.origin) value isnt))

    pub queue_right : IsQueueRight program new t
    queue_right =
        let right = image.queues t known in
        let tail : new (Tail t) ≡ old (Tail t) = renewed.same (Tail t) tt in
        record {
          slots = λ k lt. record {
            empty = λ behind.
                subst (λ p. new (Slot t ((p + k) % (thread_def program t).queue)) ≡ empty_word (p + k)) (sym (released_same t known))
                (renewed.empty t k known (omega (arith, held_count t known)) lt);
            fits = λ behind. let lt21 = (right.slots k lt).fits (omega (arith, held_count t known)) in omega (arith, released_same t known);
          };
          tail = elim right.tail [ inl is ↦ inl (tail ∙ (is ∙ sym (published_same t known))) | inr is ↦ inr (ap (λ n. n + 1) tail ∙ (is ∙ sym (published_same t known))) ];
          only = λ done u less. finished_same u (omega arith) ∙ right.only (sym (finished_same t known) ∙ done) u less;
          idle = λ done. committed_same program old new renewed t header.next (omega arith) ∙ right.idle (sym (finished_same t known) ∙ done);
          served = first_served;
        }
