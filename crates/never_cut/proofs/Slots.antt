-- What the kernel finds in the slots of a queue.
use Rattle.never_cut.proofs.Common.{◌≡◌, ◌≢◌, ℕ, ◌+◌, ◌-◌, ◌%◌, ◌^◌, ◌<◌, ◌≤◌, List, [], ◌∷◌, length, Option, Some, None, arith, ap, ◌∙◌, sym, inl, inr, subst, cases_lt, add-mod_right, Event, Program, Memory, Tail, slot_in, Empty, Full, slot_in-empty, queued_fits, slot_in-event_word, thread_def, source_thread, Model, ThreadModel, thread_of, queue_of, Readings, slots_of, StandsQueue, event_slot, event_at, published, IsQueued}
use Rattle.ink_base.specs.declared.limits.TheConstants as limits
use Rattle.push_core.specs.declared.slot.Slot as slot
use Rattle.never_cut.specs.kept.Steps.{Background}

-- the slots of a thread's queue stand for its events, and all numbers fit their bits
pub record IsReadable (program : Program) (t places : ℕ) (slot : ℕ → ℕ) (tail : ℕ) (x : ThreadModel) : Type 0 where
  pub stands : StandsQueue places slot tail (queue_of x)
  pub some : 0 < places
  pub few : places ≤ limits.QUEUE_PLACES
  pub small : published (queue_of x) < 2 ^ 20
  pub queued : (k : ℕ) → k < length x.held → IsQueued program t (event_at x.held k)
  pub sources : length program.sources ≤ limits.SOURCES

pub readable : (program : Program) (readings : Readings) (words : Memory) (m : Model) (t : ℕ) → Background program readings words m → t < length program.threads →
    IsReadable program t (thread_def program t).queue (slots_of words t) (words (Tail t)) (thread_of m t)
readable program readings words m t b known = record {
  stands = b.shared.queues t known;
  some = let def = b.accepted.threads t known in omega (arith, def.queue_least);
  few = let def = b.accepted.threads t known in def.queue;
  small = b.shared.small t known;
  queued = let x = b.sound.threads t known in x.queued;
  sources = b.accepted.counts.sources;
}

-- the slot of the k-th held event
pub held_slot : (program : Program) (t places : ℕ) (slot : ℕ → ℕ) (tail k : ℕ) (x : ThreadModel) → IsReadable program t places slot tail x → k < length x.held →
    slot_in (slot ((x.released + k) % places)) ≡ Some (event_slot (x.released + k) (event_at x.held k))
held_slot program t places slot tail k x h lt =
    let e : Event = event_at x.held k in
    let small : published (queue_of x) < 2 ^ 20 = h.small in
    ap slot_in (h.stands.full_slots k lt)
    ∙ slot_in-event_word (x.released + k) e (queued_fits (length program.sources) (source_thread program) t (x.released + k) e h.sources (omega arith) (h.queued k lt))

-- and a free one
pub free_slot : (program : Program) (t places : ℕ) (slot : ℕ → ℕ) (tail s : ℕ) (x : ThreadModel) → IsReadable program t places slot tail x →
    published (queue_of x) ≤ s → s < x.released + places → slot_in (slot (s % places)) ≡ Some (Empty s)
free_slot program t places slot tail s x h above below =
    let small : published (queue_of x) < 2 ^ 20 = h.small in
    let few : places ≤ limits.QUEUE_PLACES = h.few in
    ap slot_in (h.stands.empty_slots s above below) ∙ slot_in-empty s (omega arith)

-- the slot of the first event
pub first_slot : (program : Program) (t places : ℕ) (slot : ℕ → ℕ) (tail : ℕ) (x : ThreadModel) (e : Event) (rest : List Event) → IsReadable program t places slot tail x →
    x.held ≡ e ∷ rest → slot_in (slot (x.released % places)) ≡ Some (event_slot x.released e)
first_slot program t places slot tail x e rest h is =
    let some : 0 < length x.held = rw is (omega arith) in
    let at : x.released + 0 ≡ x.released = omega arith in
    let here : event_at x.held 0 ≡ e = ap (λ l. event_at l 0) is in
    subst (λ (p : ℕ). slot_in (slot (p % places)) ≡ Some (event_slot p e)) at
    (subst (λ z. slot_in (slot ((x.released + 0) % places)) ≡ Some (event_slot (x.released + 0) z)) here (held_slot program t places slot tail 0 x h some))

-- the next slot of an empty queue
pub empty_slot : (program : Program) (t places : ℕ) (slot : ℕ → ℕ) (tail : ℕ) (x : ThreadModel) → IsReadable program t places slot tail x →
    x.held ≡ [] → slot_in (slot (x.released % places)) ≡ Some (Empty x.released)
empty_slot program t places slot tail x h is =
    let none : length x.held ≡ 0 = ap length is in
    let some : 0 < places = h.some in
    free_slot program t places slot tail x.released x h (omega arith) (omega arith)

-- a slot shows no event of the position
abbrev pub ShowsOther : ℕ → Option slot.Slot → Type 0
ShowsOther p (Some (Full q source count value)) = q ≢ p
ShowsOther p (Some (Empty q)) = Unit {0}
ShowsOther p None = Unit {0}

-- the slot of an event that was released holds a later event, or is empty
pub old_slot : (program : Program) (t places : ℕ) (slot : ℕ → ℕ) (tail p : ℕ) (x : ThreadModel) → IsReadable program t places slot tail x →
    p + 1 ≡ x.released → ShowsOther p (slot_in (slot (p % places)))
old_slot program t places slot tail p x h is =
    let some : 0 < places = h.some in
    let k : ℕ = places - 1 in
    let later : x.released + k ≡ p + places = omega arith in
    let turn : (x.released + k) % places ≡ p % places = ap (λ z. z % places) later ∙ add-mod_right p places in
    subst (λ n. ShowsOther p (slot_in (slot n))) turn
    (elim (cases_lt k (length x.held)) [
      | inl held ↦
          subst (ShowsOther p) (sym (held_slot program t places slot tail k x h held)) (λ same. omega arith)
      | inr free ↦ subst (ShowsOther p) (sym (free_slot program t places slot tail (x.released + k) x h (omega arith) (omega arith))) tt
    ])
