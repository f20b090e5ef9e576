-- The words of a queue tell the queue that they stand for.
use Rattle.never_cut.proofs.Common.{◌≡◌, inl, inr, ℕ, zero, suc, ◌+◌, ◌-◌, ◌<◌, ◌≤◌, ◌==◌, ◌&&◌, Bool, true, false, List, [], ◌∷◌, length, Option, Some, None, refl, ap, ◌∙◌, subst, arith, nat_lt, if◌then◌else◌, eq-eqb, ne_eqb, lt-ltb, le-ltb, cases_lt, and_from, Event, Origin, Program, Memory, Tail, committed, Empty, Full, event_at, event_slot, IsAccepted, thread_def, source_thread, Model, thread_of, queue_of, Readings, flag, slots_of, Stands, IsQueued, IsSound, slot_of, is_full_of, event_in, events_from, told_finished, told_released, told_held, told_queue}
use Rattle.ink_base.specs.declared.event.Origin.TheVariants as origins
use Rattle.fram_words.specs.Header as header
use Rattle.push_core.specs.declared.slot.Slot as slot
use Rattle.never_cut.proofs.Blocks.{finished_word}
use Rattle.never_cut.proofs.ReadQueues.{followed}
use Rattle.never_cut.proofs.Slots.{IsReadable, held_slot, free_slot, ShowsOther, old_slot}
use Rattle.never_cut.proofs.SoundStates.{published_bound}

-- what a slot shows of a queue's event is the event
event_told : (program : Program) (t p value : ℕ) (o : Origin) → IsQueued program t (record { origin = o; value = value }) →
    event_in program t p (Some (event_slot p (record { origin = o; value = value }))) ≡ Some (record { origin = o; value = value })
event_told program t p value (origins.Source source count) queued =
    let test : ((p == p) && (nat_lt source.0 (length program.sources) && (source_thread program source.0 == t))) ≡ true =
    and_from (p == p) _ (eq-eqb p p refl) (and_from (nat_lt source.0 (length program.sources)) _ (lt-ltb _ _ queued.0) (eq-eqb _ _ queued.1)) in
    ap (λ (b : Bool). if b then Some (record { origin = origins.Source source count; value = value }) else None) test
event_told program t p value (origins.Pipe pipe item) queued = absurd queued
event_told program t p value (origins.Timer timer deadline) queued = absurd queued

-- from a position on, the slots tell these events, where they hold them and, if a place is left, the empty word behind
pub record AreHeldFrom (program : Program) (words : Memory) (t p most : ℕ) (held : List Event) : Type 0 where
  pub few : length held ≤ most
  pub queued : (k : ℕ) → k < length held → IsQueued program t (event_at held k)
  pub shown : (k : ℕ) → k < length held → slot_of program words t (p + k) ≡ Some (event_slot (p + k) (event_at held k))
  pub behind : length held < most → slot_of program words t (p + length held) ≡ Some (Empty (p + length held))

module _ (program : Program) (words : Memory) (t : ℕ) where
  events_told : (most p : ℕ) (held : List Event) → AreHeldFrom program words t p most held → events_from program words t p most ≡ held
  events_told zero p [] h = refl
  events_told zero p (e ∷ held) h = absurd (let le = h.few in omega arith)
  events_told (suc most) p [] h =
      let at : p + 0 ≡ p = omega arith in
      let empty : slot_of program words t p ≡ Some (Empty p) = subst (λ n. slot_of program words t n ≡ Some (Empty n)) at (h.behind (omega arith)) in
      ap (λ s. followed program words t p most (event_in program t p s)) empty
  events_told (suc most) p (e ∷ held) h =
      let at : p + 0 ≡ p = omega arith in
      let here : slot_of program words t p ≡ Some (event_slot p e) = subst (λ n. slot_of program words t n ≡ Some (event_slot n e)) at (h.shown 0 (omega arith)) in
      let rest : events_from program words t (p + 1) most ≡ held = events_told most (p + 1) held (record {
        few = let le = h.few in omega arith;
        queued = λ k lt. h.queued (suc k) (omega arith);
        shown = λ k lt. subst (λ n. slot_of program words t n ≡ Some (event_slot n (event_at held k))) (let s : p + suc k ≡ p + 1 + k = omega arith in s) (h.shown (suc k) (omega arith));
        behind = λ lt. subst (λ n. slot_of program words t n ≡ Some (Empty n)) (let s : p + suc (length held) ≡ p + 1 + length held = omega arith in s) (h.behind (omega arith));
      }) in
      ap (λ s. followed program words t p most (event_in program t p s)) here
      ∙ (ap (followed program words t p most) (event_told program t p e.value e.origin (h.queued 0 (omega arith))) ∙ ap (λ l. e ∷ l) rest)

-- a slot that shows no event of a position has none
shown_other : (p : ℕ) (s : Option slot.Slot) → ShowsOther p s → is_full_of p s ≡ false
shown_other p None other = refl
shown_other p (Some (Empty q)) other = refl
shown_other p (Some (Full q source count value)) other = ne_eqb q p other

module _ (program : Program) (readings : Readings) (words : Memory) (m : Model) (accepted : IsAccepted program) (sound : IsSound program readings m) (stands : Stands words program m)
    (t : ℕ) (known : t < length program.threads) where
  pub is_readable : IsReadable program t (thread_def program t).queue (slots_of words t) (words (Tail t)) (thread_of m t)
  is_readable = record {
    stands = stands.shared.queues t known;
    some = let least = (accepted.threads t known).queue_least in omega arith;
    few = (accepted.threads t known).queue;
    small = let fits = published_bound program readings m t sound known in omega arith;
    queued = (sound.threads t known).queued;
    sources = accepted.counts.sources;
  }

  -- the number of finished events, by whether the first one is
  ended : committed words t header.finished ≡ (thread_of m t).released + flag (thread_of m t).finished
  ended = finished_word program words m t known stands.private

  finished_told : (b : Bool) → (thread_of m t).finished ≡ b → told_finished program words t ≡ b
  finished_told true is =
      let one : flag (thread_of m t).finished ≡ 1 = ap flag is in
      let some = ((sound.threads t known).finished is).0 in
      let last : (thread_of m t).released + 0 ≡ committed words t header.finished - 1 = omega (arith, ended, one) in
      let shown = held_slot program t (thread_def program t).queue (slots_of words t) (words (Tail t)) 0 (thread_of m t) is_readable some in
      let full : is_full_of (committed words t header.finished - 1) (slot_of program words t (committed words t header.finished - 1)) ≡ true =
      subst (λ n. is_full_of n (slot_of program words t n) ≡ true) last
      (ap (is_full_of ((thread_of m t).released + 0)) shown ∙ eq-eqb _ _ refl) in
      and_from (nat_lt 0 (committed words t header.finished)) _ (lt-ltb 0 _ (omega (arith, ended, one))) full
  finished_told false is =
      let none : flag (thread_of m t).finished ≡ 0 = ap flag is in
      elim (cases_lt 0 (committed words t header.finished)) [
        | inl some ↦
            let last : ℕ = committed words t header.finished - 1 in
            let next : last + 1 ≡ (thread_of m t).released = omega (arith, ended, none) in
            let other = shown_other last (slot_of program words t last)
            (old_slot program t (thread_def program t).queue (slots_of words t) (words (Tail t)) last (thread_of m t) is_readable next) in
            ap (λ b. nat_lt 0 (committed words t header.finished) && b) other ∙ and_false (nat_lt 0 (committed words t header.finished))
        | inr all ↦
            ap (λ b. b && is_full_of (committed words t header.finished - 1) (slot_of program words t (committed words t header.finished - 1))) (le-ltb 0 _ all)
      ]
    where
      and_false : (b : Bool) → (b && false) ≡ false
      and_false true = refl
      and_false false = refl

  released_told : told_released program words t ≡ (thread_of m t).released
  released_told =
      let same : flag (told_finished program words t) ≡ flag (thread_of m t).finished = ap flag (finished_told (thread_of m t).finished refl) in
      omega (arith, ended, same)

  held_told : told_held program words t ≡ (thread_of m t).held
  held_told =
      let room = is_readable.stands.room in
      ap (λ p. events_from program words t p (thread_def program t).queue) released_told
      ∙ events_told program words t (thread_def program t).queue (thread_of m t).released (thread_of m t).held
      (record {
        few = room;
        queued = is_readable.queued;
        shown = λ k lt. held_slot program t (thread_def program t).queue (slots_of words t) (words (Tail t)) k (thread_of m t) is_readable lt;
        behind = λ lt. free_slot program t (thread_def program t).queue (slots_of words t) (words (Tail t)) ((thread_of m t).released + length (thread_of m t).held) (thread_of m t) is_readable
            (omega arith) (omega arith);
      })

  -- the queue is told as it is
  pub queue_told : told_queue program words t ≡ queue_of (thread_of m t)
  queue_told = λ k. record { held = held_told k; finished = finished_told (thread_of m t).finished refl k; released = released_told k }
