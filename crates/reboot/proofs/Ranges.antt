-- The registers of a boot, and the words that it finds, lie in their ranges.
use Rattle.reboot.proofs.Common.{◌≡◌, ℕ, ◌+◌, ◌-◌, ◌%◌, ◌^◌, ◌<◌, ◌≤◌, Bool, true, false, length, arith, ap, ◌∙◌, sym, inl, inr, subst, cases_Bool, cases_lt, Event, Program, Memory, answer, place_in, slot_in, thread_def, source_thread, Model, ThreadModel, thread_of, queue_of, Readings, flag, published, event_at, IsQueued, IsFinishing, Background, IsReadable, readable, held_slot, free_slot, finished_word, BootAt, Commit, Stamp, Finished, Slot, Ack, Empty, Over, BootMachine, boot_wants, IsBootRow, IsBootWord, IsOfSource, finished_events, BootKnows, BootHolds}
use Rattle.std.proofs.Math.Nat.{add-mod_right}
use Rattle.fram_words.specs.Header as header
use Rattle.push_core.proofs.Events.{queued_numbers}
use Rattle.reboot.specs.Laws.{IsInRange}

-- the slot of a position of this turn shows an event of one of the sources, or none
pub slot_source : (program : Program) (t size : ℕ) (slot : ℕ → ℕ) (tail s : ℕ) (x : ThreadModel) → IsReadable program t size slot tail x →
    x.released ≤ s → s < x.released + size → IsOfSource program (slot_in (slot (s % size)))
slot_source program t size slot tail s x h above below =
    elim (cases_lt s (published (queue_of x))) [
      | inl held ↦
          let at : x.released + (s - x.released) ≡ s = omega arith in
          let k : s - x.released < length x.held = omega arith in
          let e : Event = event_at x.held (s - x.released) in
          subst (λ n. IsOfSource program (slot_in (slot (n % size)))) at
          (subst (IsOfSource program) (sym (held_slot program t size slot tail (s - x.released) x h k))
          (queued_numbers (length program.sources) (source_thread program) t e (h.queued (s - x.released) k)).source)
      | inr free ↦ subst (IsOfSource program) (sym (free_slot program t size slot tail s x h free below)) tt
    ]

-- and that of the position before
pub slot_source_before : (program : Program) (t size : ℕ) (slot : ℕ → ℕ) (tail p : ℕ) (x : ThreadModel) → IsReadable program t size slot tail x →
    p ≤ x.released → x.released ≤ p + 1 → IsOfSource program (slot_in (slot (p % size)))
slot_source_before program t size slot tail p x h below near =
    let some : 0 < size = h.some in
    elim (cases_lt p x.released) [
      | inl old ↦ subst (λ n. IsOfSource program (slot_in (slot n))) (add-mod_right p size) (slot_source program t size slot tail (p + size) x h (omega arith) (omega arith))
      | inr first ↦ slot_source program t size slot tail p x h (omega arith) (omega arith)
    ]

flag_small : (b : Bool) → flag b ≤ 1
flag_small true = omega arith
flag_small false = omega arith

-- a finished event is held
events_small : (program : Program) (readings : Readings) (words : Memory) (m : Model) (t : ℕ) → Background program readings words m → t < length program.threads →
    finished_events m t < 2 ^ 20
events_small program readings words m t b known =
    let small : published (queue_of (thread_of m t)) < 2 ^ 20 = b.shared.small t known in
    let sound = b.sound.threads t known in
    elim (cases_Bool (thread_of m t).finished) [
      | inl is ↦ let some = sound.finished is in let held : 0 < length (thread_of m t).held = some.0 in rw is (omega arith)
      | inr clear ↦ rw clear (omega arith)
    ]

finishing_source : (program : Program) (readings : Readings) (words : Memory) (m : Model) (t i count : ℕ) → Background program readings words m →
    t < length program.threads → IsFinishing m t i count → i < length program.sources
finishing_source program readings words m t i count b known h =
    let sound = b.sound.threads t known in
    let some : 0 < length (thread_of m t).held = rw h.first.1 (omega arith) in
    let queued = subst (IsQueued program t) (ap (λ l. event_at l 0) h.first.1) (sound.queued 0 some) in
    queued.0

row_in_range : (program : Program) (readings : Readings) (words : Memory) (m : Model) (t stamp : ℕ) (at : BootAt) → Background program readings words m →
    t < length program.threads → BootKnows program words m t stamp at → IsBootRow program at
row_in_range program readings words m t stamp (Slot p) b known h =
    let small : finished_events m t < 2 ^ 20 = events_small program readings words m t b known in
    let at : p + 1 ≡ finished_events m t = h.0 in omega arith
row_in_range program readings words m t stamp (Ack p source count) b known h =
    let small : published (queue_of (thread_of m t)) < 2 ^ 20 = b.shared.small t known in
    let at : p ≡ (thread_of m t).released = h.0.position in
    (omega arith, finishing_source program readings words m t source.0 count b known h.0.finishing)
row_in_range program readings words m t stamp (Empty p) b known h =
    let small : published (queue_of (thread_of m t)) < 2 ^ 20 = b.shared.small t known in
    let at : p ≡ (thread_of m t).released = h.0.event.position in omega arith
row_in_range program readings words m t stamp _ b known h = tt

word_in_range : (program : Program) (readings : Readings) (words : Memory) (m : Model) (t stamp : ℕ) (at : BootAt) → Background program readings words m →
    t < length program.threads → BootKnows program words m t stamp at → IsBootWord program at (answer words (boot_wants program t at))
word_in_range program readings words m t stamp (Finished c) b known h =
    let word : words (place_in t c header.finished) ≡ finished_events m t = ap (λ k. words (place_in t k header.finished)) h.0 ∙ finished_word program words m t known b.private in
    rw word (events_small program readings words m t b known)
word_in_range program readings words m t stamp (Slot p) b known h =
    let few : flag (thread_of m t).finished ≤ 1 = flag_small (thread_of m t).finished in
    let at : p + 1 ≡ finished_events m t = h.0 in
    slot_source_before program t (thread_def program t).queue _ _ p (thread_of m t) (readable program readings words m t b known) (omega arith) (omega arith)
word_in_range program readings words m t stamp _ b known h = tt

pub boot_in_range : (program : Program) (readings : Readings) (words : Memory) (m : Model) (boot : BootMachine) → Background program readings words m →
    BootHolds program words m boot → IsInRange program words boot
boot_in_range program readings words m boot b h = record {
  row = record { known = h.known; row = row_in_range program readings words m boot.thread.0 boot.stamp boot.at b h.known h.knows };
  word = word_in_range program readings words m boot.thread.0 boot.stamp boot.at b h.known h.knows;
}
