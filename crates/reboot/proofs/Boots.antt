-- The accesses of a boot.
use Rattle.reboot.proofs.Common.{◌≡◌, ◌≢◌, ℕ, ◌+◌, ◌%◌, ◌<◌, ◌≤◌, Bool, true, false, List, [], ◌∷◌, length, Option, Some, None, arith, refl, ap, ◌∙◌, sym, inl, inr, subst, suc, max, ◌==◌, nat_lt, eqb-true, eq-eqb, ne_eqb, ltb-true, ltb-false, cases_Bool, cases_eq, eqb-false, Event, Program, Memory, Load, store, committed, place_in, slot_in, empty_word, thread_def, Model, ThreadModel, thread_of, Readings, flag, StandsPrivate, event_at, event_slot, IsQueued, IsFirstHeld, StandsForKernel, Background, IsKept, private_stays, ack_blocks, readable, first_slot, old_slot, ShowsOther, finished_word, BootAt, Commit, Stamp, Finished, Slot, Ack, Empty, Over, BootMachine, boot_at, boot_begun, boot_next, after_slot, finished_events, last_stamp, greatest, IsCounted, BootHolds, BootStep}
use Rattle.ink_base.specs.declared.ids.ThreadId.{ThreadId}
use Rattle.ink_base.specs.declared.ids.SourceId.{SourceId}
use Rattle.ink_base.specs.declared.event.Origin.{Origin}
use Rattle.ink_base.specs.declared.event.Origin.TheVariants as origins
use Rattle.fram_words.specs.Places as places
use Rattle.fram_words.specs.Header as header
use Rattle.fram_words.proofs.Frames.{store-same}
use Rattle.push_core.specs.declared.slot.Slot as slot
use Rattle.push_core.specs.declared.slot.Slot.TheVariants as slots
use Rattle.never_cut.proofs.Releases.{after_release, release_other, release_calm, release_private, release_queues}
use Rattle.never_cut.proofs.Loads.{load_kept}

-- what holds below a number and at it
pub up_to : (P : ℕ → Type 0) (t : ℕ) → ((u : ℕ) → u < t → P u) → P t → (u : ℕ) → u ≤ t → P u
up_to P t below here u le = elim (cases_eq u t) [ inl e ↦ subst P (sym e) here | inr ne ↦ below u (omega arith) ]

-- the thread at hand was passed: it has no finished event, and its stamp counts
pub goes_on : (program : Program) (words : Memory) (m : Model) (thread : ThreadId) (stamp : ℕ) → thread.0 < length program.threads →
    ((u : ℕ) → u ≤ thread.0 → (thread_of m u).finished ≡ false) → ((u : ℕ) → u ≤ thread.0 → IsCounted words u stamp) → stamp ≤ m.commits →
    stamp ≡ greatest (last_stamp words) (suc thread.0) → BootHolds program words m (boot_next program thread stamp)
goes_on program words m thread stamp known passed counted below top =
    elim (cases_Bool (nat_lt (thread.0 + 1) (length program.threads))) [
      | inl e ↦
          let lt : thread.0 + 1 < length program.threads = ltb-true (thread.0 + 1) (length program.threads) e in
          let next : suc thread.0 ≡ thread.0 + 1 = omega arith in
          rw e (record {
            known = lt;
            passed = λ u l. passed u (omega arith);
            counted = λ u l. counted u (omega arith);
            below = below;
            greatest_is = top ∙ ap (greatest (last_stamp words)) next;
            knows = tt;
          })
      | inr e ↦
          let ge : length program.threads ≤ thread.0 + 1 = ltb-false (thread.0 + 1) (length program.threads) e in
          rw e (record {
            known = known;
            passed = λ u l. passed u (omega arith);
            counted = λ u l. counted u (omega arith);
            below = below;
            greatest_is = top;
            knows = (record { last = ge; clear = passed thread.0 (omega arith) }, counted thread.0 (omega arith));
          })
    ]

pub boot_begins : (program : Program) (readings : Readings) (words : Memory) (m : Model) → Background program readings words m → BootHolds program words m boot_begun
boot_begins program readings words m b = record {
  known = let counts = b.accepted.counts in omega (arith, counts.threads_least);
  passed = λ u l. absurd (omega arith);
  counted = λ u l. absurd (omega arith);
  below = omega arith;
  greatest_is = refl;
  knows = tt;
}

flag_zero : (b : Bool) → flag b ≡ 0 → b ≡ false
flag_zero true e = absurd (omega arith)
flag_zero false e = refl

-- the load of a commit word
commit_step : (program : Program) (readings : Readings) (words : Memory) (m : Model) (thread : ThreadId) (stamp : ℕ) → Background program readings words m →
    BootHolds program words m (boot_at thread stamp Commit) → BootStep program readings words m (boot_at thread stamp Commit)
commit_step program readings words m thread stamp b h = record {
  kept = load_kept program readings words m (places.Commit thread.0) b;
  holds = record { known = h.known; passed = h.passed; counted = h.counted; below = h.below; greatest_is = h.greatest_is; knows = refl };
}

-- the load of a stamp
stamp_step : (program : Program) (readings : Readings) (words : Memory) (m : Model) (thread : ThreadId) (stamp c : ℕ) → Background program readings words m →
    BootHolds program words m (boot_at thread stamp (Stamp c)) → BootStep program readings words m (boot_at thread stamp (Stamp c))
stamp_step program readings words m thread stamp c b h =
    let word : words (place_in thread.0 c header.stamp) ≡ committed words thread.0 header.stamp = ap (λ k. words (place_in thread.0 k header.stamp)) h.knows in
    let top : committed words thread.0 header.stamp ≤ m.commits = b.private.stamps thread.0 h.known in
    let below : stamp ≤ m.commits = h.below in
    record {
      kept = load_kept program readings words m (place_in thread.0 c header.stamp) b;
      holds = record {
        known = h.known;
        passed = h.passed;
        counted = λ u l. let old : committed words u header.stamp ≤ stamp = h.counted u l in omega arith;
        below = omega arith;
        greatest_is = ap (λ k. max stamp k) word ∙ ap (λ k. max k (committed words thread.0 header.stamp)) h.greatest_is;
        knows = (h.knows, omega arith);
      };
    }

-- the load of the number of finished events
finished_step : (program : Program) (readings : Readings) (words : Memory) (m : Model) (thread : ThreadId) (stamp c : ℕ) → Background program readings words m →
    BootHolds program words m (boot_at thread stamp (Finished c)) → BootStep program readings words m (boot_at thread stamp (Finished c))
finished_step program readings words m thread stamp c b h =
    let t : ℕ = thread.0 in
    let word : words (place_in thread.0 c header.finished) ≡ finished_events m thread.0 =
    ap (λ k. words (place_in thread.0 k header.finished)) h.knows.0 ∙ finished_word program words m thread.0 h.known b.private in
    record {
      kept = load_kept program readings words m (place_in thread.0 c header.finished) b;
      holds =
          elim (cases_Bool (words (place_in thread.0 c header.finished) == 0)) [
            | inl e ↦
                let none : words (place_in thread.0 c header.finished) ≡ 0 = eqb-true (words (place_in thread.0 c header.finished)) 0 e in
                let clear : (thread_of m thread.0).finished ≡ false = flag_zero (thread_of m thread.0).finished (omega arith) in
                rw e (goes_on program words m thread stamp h.known
                (up_to (λ u. (thread_of m u).finished ≡ false) thread.0 h.passed clear)
                (up_to (λ u. IsCounted words u stamp) thread.0 h.counted h.knows.1) h.below h.greatest_is)
            | inr e ↦
                let some : words (place_in thread.0 c header.finished) ≢ 0 = eqb-false (words (place_in thread.0 c header.finished)) 0 e in
                rw e (record { known = h.known; passed = h.passed; counted = h.counted; below = h.below; greatest_is = h.greatest_is; knows = (omega arith, h.knows.1) })
          ];
    }

-- the slot shows no event of the position
other_shown : (program : Program) (words : Memory) (m : Model) (thread : ThreadId) (stamp p : ℕ) (o : Option slot.Slot) → ShowsOther p o →
    BootHolds program words m (boot_next program thread stamp) → BootHolds program words m (after_slot program thread stamp p o)
other_shown program words m thread stamp p (Some (slots.Full q source count value)) other h = rw (ne_eqb q p other) h
other_shown program words m thread stamp p (Some (slots.Empty q)) other h = h
other_shown program words m thread stamp p None other h = h

-- the slot shows the finished event, which is the first held one
event_shown : (program : Program) (words : Memory) (m : Model) (thread : ThreadId) (stamp p : ℕ) (origin : Origin) (value : ℕ) →
    BootHolds program words m (boot_at thread stamp (Slot p)) → IsQueued program thread.0 (record { origin = origin; value = value }) →
    IsFirstHeld m thread.0 (record { origin = origin; value = value }) → (thread_of m thread.0).finished ≡ true → (thread_of m thread.0).released ≡ p →
    BootHolds program words m (after_slot program thread stamp p (Some (event_slot (thread_of m thread.0).released (record { origin = origin; value = value }))))
event_shown program words m thread stamp p (origins.Source source count) value h queued first is at =
    rw (eq-eqb (thread_of m thread.0).released p at) (record {
      known = h.known;
      passed = h.passed;
      counted = h.counted;
      below = h.below;
      greatest_is = h.greatest_is;
      knows = (record { position = sym at; finishing = record { value = value; first = first; finished = is } }, h.knows.1);
    })
event_shown program words m thread stamp p (origins.Pipe pipe item) value h queued first is at = absurd queued
event_shown program words m thread stamp p (origins.Timer timer deadline) value h queued first is at = absurd queued

-- the first of a list with members
first_member : (held : List Event) → 0 < length held → (rest : List Event) × (held ≡ event_at held 0 ∷ rest)
first_member [] some = absurd (omega arith)
first_member (e ∷ rest) some = (rest, refl)

-- the load of a slot
slot_step : (program : Program) (readings : Readings) (words : Memory) (m : Model) (thread : ThreadId) (stamp p : ℕ) → Background program readings words m →
    BootHolds program words m (boot_at thread stamp (Slot p)) → BootStep program readings words m (boot_at thread stamp (Slot p))
slot_step program readings words m thread stamp p b h =
    let t : ℕ = thread.0 in
    let x : ThreadModel = thread_of m thread.0 in
    let size : ℕ = (thread_def program thread.0).queue in
    let queue = readable program readings words m thread.0 b h.known in
    let events : p + 1 ≡ x.released + flag x.finished = h.knows.0 in
    record {
      kept = load_kept program readings words m (places.Slot thread.0 (p % size)) b;
      holds =
          elim (cases_Bool x.finished) [
            | inl is ↦
                let at : x.released ≡ p = let e : p + 1 ≡ x.released + 1 = events ∙ ap (λ z. x.released + flag z) is in omega arith in
                let sound = b.sound.threads thread.0 h.known in
                let some = sound.finished is in
                let first = first_member x.held some.0 in
                let e : Event = event_at x.held 0 in
                subst (λ o. BootHolds program words m (after_slot program thread stamp p o))
                (sym (ap (λ k. slot_in (words (places.Slot thread.0 (k % size)))) (sym at)
                ∙ first_slot program thread.0 size _ _ x e first.0 queue first.1))
                (event_shown program words m thread stamp p e.origin e.value h (sound.queued 0 some.0) (first.0, first.1) is at)
            | inr clear ↦
                let at : p + 1 ≡ x.released = let e : p + 1 ≡ x.released + 0 = events ∙ ap (λ z. x.released + flag z) clear in omega arith in
                other_shown program words m thread stamp p (slot_in (words (places.Slot thread.0 (p % size))))
                (old_slot program thread.0 size _ _ p x queue at)
                (goes_on program words m thread stamp h.known
                (up_to (λ u. (thread_of m u).finished ≡ false) thread.0 h.passed clear)
                (up_to (λ u. IsCounted words u stamp) thread.0 h.counted h.knows.1) h.below h.greatest_is)
          ];
    }

-- a store of an acknowledgement
pub ack_private : (words : Memory) (program : Program) (m : Model) (i v : ℕ) → StandsPrivate words program m → StandsPrivate (store words (places.Ack i) v) program m
ack_private words program m i v h =
    private_stays words (store words (places.Ack i) v) program m m (ack_blocks words i v)
    (record { saves = λ t. refl; event = λ t. refl; pipes = refl; outputs = refl; commits = refl }) h

pub ack_queues : (words : Memory) (program : Program) (m : Model) (i v : ℕ) → StandsForKernel words program m → StandsForKernel (store words (places.Ack i) v) program m
ack_queues words program m i v h = record { queues = h.queues; small = h.small; clock = h.clock }

ack_step : (program : Program) (readings : Readings) (words : Memory) (m : Model) (thread : ThreadId) (stamp p : ℕ) (source : SourceId) (count : ℕ) → Background program readings words m →
    BootHolds program words m (boot_at thread stamp (Ack p source count)) → BootStep program readings words m (boot_at thread stamp (Ack p source count))
ack_step program readings words m thread stamp p source count b h =
    let v : ℕ = (count + 1) % 64 in
    record {
      kept = record {
        legal = tt;
        allowed = (thread.0, h.known, count, h.knows.0.finishing, refl);
        private = ack_private words program m source.0 v b.private;
        shared = ack_queues words program m source.0 v b.shared;
      };
      holds = record {
        known = h.known;
        passed = h.passed;
        counted = h.counted;
        below = h.below;
        greatest_is = h.greatest_is;
        knows = (record { source = source.0; count = count; event = h.knows.0; stored = store-same words (places.Ack source.0) v }, h.knows.1);
      };
    }

-- the store of the empty slot
empty_step : (program : Program) (readings : Readings) (words : Memory) (m : Model) (thread : ThreadId) (stamp p : ℕ) → Background program readings words m →
    BootHolds program words m (boot_at thread stamp (Empty p)) → BootStep program readings words m (boot_at thread stamp (Empty p))
empty_step program readings words m thread stamp p b h =
    let t : ℕ = thread.0 in
    let x : ThreadModel = thread_of m thread.0 in
    let size : ℕ = (thread_def program thread.0).queue in
    let ack = h.knows.0 in
    let at : p ≡ x.released = ack.event.position in
    let is : x.finished ≡ true = ack.event.finishing.finished in
    let lt : thread.0 < length m.threads = rw b.sound.shape.threads h.known in
    let sound = b.sound.threads thread.0 h.known in
    let some = sound.finished is in
    let next : Model = after_release m thread.0 in
    let new : Memory = store words (places.Slot thread.0 (p % size)) (empty_word (p + size)) in
    record {
      kept = record {
        legal = (h.known, is);
        allowed = (h.known, ack.source, ack.count, ack.event.finishing, ack.stored, ap (λ k. k % size) at, ap (λ k. empty_word (k + size)) at);
        private = release_private words program m thread.0 (p % size) (empty_word (p + size)) lt is b.private;
        shared =
            subst (λ k. StandsForKernel (store words (places.Slot thread.0 (k % size)) (empty_word (k + size))) program (after_release m thread.0)) (sym at)
            (release_queues words program m thread.0 lt some.0 b.shared h.known);
      };
      holds = goes_on program new next thread stamp h.known
          (up_to (λ u. (thread_of next u).finished ≡ false) thread.0
          (λ u l. ap (λ (y : ThreadModel). y.finished) (release_other m thread.0 u (λ e. omega arith)) ∙ h.passed u l) (release_calm m thread.0 lt))
          (up_to (λ u. IsCounted words u stamp) thread.0 h.counted h.knows.1) h.below h.greatest_is;
    }

over_step : (program : Program) (readings : Readings) (words : Memory) (m : Model) (thread : ThreadId) (stamp : ℕ) → Background program readings words m →
    BootHolds program words m (boot_at thread stamp Over) → BootStep program readings words m (boot_at thread stamp Over)
over_step program readings words m thread stamp b h = record { kept = load_kept program readings words m (places.Commit thread.0) b; holds = h }

-- each access of a boot is kept
pub boot_keeps : (program : Program) (readings : Readings) (words : Memory) (m : Model) (boot : BootMachine) → Background program readings words m →
    BootHolds program words m boot → BootStep program readings words m boot
boot_keeps program readings words m boot b h = by_row boot.at h
  where
    by_row : (at : BootAt) → BootHolds program words m (boot_at boot.thread boot.stamp at) → BootStep program readings words m (boot_at boot.thread boot.stamp at)
    by_row Commit h = commit_step program readings words m boot.thread boot.stamp b h
    by_row (Stamp c) h = stamp_step program readings words m boot.thread boot.stamp c b h
    by_row (Finished c) h = finished_step program readings words m boot.thread boot.stamp c b h
    by_row (Slot p) h = slot_step program readings words m boot.thread boot.stamp p b h
    by_row (Ack p source count) h = ack_step program readings words m boot.thread boot.stamp p source count b h
    by_row (Empty p) h = empty_step program readings words m boot.thread boot.stamp p b h
    by_row Over h = over_step program readings words m boot.thread boot.stamp b h
