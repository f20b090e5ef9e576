-- The release of a finished event keeps what the words stand for.
use Rattle.never_cut.proofs.Common.{◌≡◌, ◌≢◌, ℕ, ◌+◌, ◌-◌, ◌%◌, ◌^◌, ◌<◌, true, false, length, arith, refl, ap, ◌∙◌, sym, inl, inr, subst, drop, length-drop, cases_eq, Program, Slot, Tail, Memory, store, empty_word, thread_def, Model, ThreadModel, thread_of, queue_of, with_thread, outputs_of, released, Saved, saved, flag, written_word, taken_word, timer_word, period_word, slots_of, StandsPrivate, published, StandsQueue, StandsForKernel}
use Rattle.fram_words.specs.Changes.{Becomes}
use Rattle.fram_words.proofs.Frames.{store-same, store-other}
use Rattle.push_core.proofs.Queues.{queue_same, queue_release}
use Rattle.never_cut.proofs.Threads.{thread_of-with_same, thread_of-with_other}
use Rattle.never_cut.proofs.Privates.{SamePrivately, private_stays, slot_blocks}

-- the state after the release of thread t's first event
abbrev pub after_release : Model → ℕ → Model
after_release m t = with_thread m t (released (thread_of m t))

pub release_same : (m : Model) (t : ℕ) → t < length m.threads → thread_of (after_release m t) t ≡ released (thread_of m t)
release_same m t lt = thread_of-with_same m t (released (thread_of m t)) lt

pub release_other : (m : Model) (t u : ℕ) → u ≢ t → thread_of (after_release m t) u ≡ thread_of m u
release_other m t u ne = thread_of-with_other m t u (released (thread_of m t)) ne

-- what the private words tell, of a thread with so many finished events
abbrev pub saved_by : Program → Model → ℕ → ThreadModel → ℕ → Saved
saved_by program m t x ended =
    record {
      state = x.state;
      running = x.running;
      first = x.first;
      ended = ended;
      served = x.served;
      trapped = x.trapped;
      expired = x.expired;
      outputs = outputs_of m t;
      written = written_word program m t;
      taken = taken_word program m t;
      due = timer_word program m t;
      period = period_word program m t;
    }

saved-released : (program : Program) (m : Model) (t : ℕ) → t < length m.threads → (thread_of m t).finished ≡ true →
    saved program (after_release m t) t ≡ saved program m t
saved-released program m t lt is =
    let x : ThreadModel = thread_of m t in
    let ended : x.released + 1 + flag false ≡ x.released + flag x.finished = rw is (let h : x.released + 1 + 0 ≡ x.released + 1 = omega arith in h) in
    ap (λ y. saved_by program m t y (y.released + flag y.finished)) (release_same m t lt) ∙ ap (saved_by program m t x) ended

pub release_privately : (program : Program) (m : Model) (t : ℕ) → t < length m.threads → (thread_of m t).finished ≡ true → SamePrivately program m (after_release m t)
release_privately program m t lt is = record {
  saves = λ u.
      elim (cases_eq u t) [
        | inl e ↦ subst (λ z. saved program (after_release m t) z ≡ saved program m z) (sym e) (saved-released program m t lt is)
        | inr ne ↦ ap (λ y. saved_by program m u y (y.released + flag y.finished)) (release_other m t u ne)
      ];
  event = λ u.
      elim (cases_eq u t) [
        | inl e ↦ subst (λ z. (thread_of (after_release m t) z).event ≡ (thread_of m z).event) (sym e) (ap (λ y. y.event) (release_same m t lt))
        | inr ne ↦ ap (λ y. y.event) (release_other m t u ne)
      ];
  pipes = refl;
  outputs = refl;
  commits = refl;
}

pub release_private : (words : Memory) (program : Program) (m : Model) (t n v : ℕ) → t < length m.threads → (thread_of m t).finished ≡ true →
    StandsPrivate words program m → StandsPrivate (store words (Slot t n) v) program (after_release m t)
release_private words program m t n v lt is h =
    private_stays words (store words (Slot t n) v) program m (after_release m t) (slot_blocks words t n v) (release_privately program m t lt is) h

-- the store that empties the first event's slot
abbrev pub emptied : Memory → Program → Model → ℕ → Memory
emptied words program m t =
    let places = (thread_def program t).queue in let r = (thread_of m t).released in store words (Slot t (r % places)) (empty_word (r + places))

emptied_slots : (words : Memory) (program : Program) (m : Model) (t : ℕ) →
    Becomes ((thread_of m t).released % (thread_def program t).queue) (empty_word ((thread_of m t).released + (thread_def program t).queue)) (slots_of words t) (slots_of (emptied words program m t) t)
emptied_slots words program m t =
    let places = (thread_def program t).queue in
    let r = (thread_of m t).released in
    record {
      here = store-same words (Slot t (r % places)) (empty_word (r + places));
      elsewhere = λ k ne. store-other words (Slot t (r % places)) (Slot t k) (empty_word (r + places)) (λ e. ne (sym (cc)));
    }

published-released : (x : ThreadModel) → 0 < length x.held → published (queue_of (released x)) ≡ published (queue_of x)
published-released x some = let len : length (drop 1 x.held) ≡ length x.held - 1 = length-drop 1 x.held in omega arith

pub release_queues : (words : Memory) (program : Program) (m : Model) (t : ℕ) → t < length m.threads → 0 < length (thread_of m t).held →
    StandsForKernel words program m → t < length program.threads → StandsForKernel (emptied words program m t) program (after_release m t)
release_queues words program m t lt some h known =
    let places = (thread_def program t).queue in
    let r = (thread_of m t).released in
    let new : Memory = emptied words program m t in
    record {
      queues = λ u within.
          elim (cases_eq u t) [
            | inl e ↦ subst (λ z. StandsQueue (thread_def program z).queue (slots_of new z) (new (Tail z)) (queue_of (thread_of (after_release m t) z))) (sym e)
                (subst (λ x. StandsQueue places (slots_of new t) (words (Tail t)) (queue_of x)) (sym (release_same m t lt))
                (queue_release (h.queues t known) some (emptied_slots words program m t)))
            | inr ne ↦
                let q = h.queues u within in
                let other : (k : ℕ) → new (Slot u k) ≡ words (Slot u k) =
                λ k. store-other words (Slot t (r % places)) (Slot u k) (empty_word (r + places)) (λ e. ne (sym (cc))) in
                subst (λ x. StandsQueue (thread_def program u).queue (slots_of new u) (words (Tail u)) (queue_of x)) (sym (release_other m t u ne))
                (queue_same q other refl refl)
          ];
      small = λ u within.
          elim (cases_eq u t) [
            | inl e ↦
                let same : published (queue_of (thread_of (after_release m t) t)) ≡ published (queue_of (thread_of m t)) = ap (λ x. published (queue_of x)) (release_same m t lt) ∙ published-released (thread_of m t) some in
                subst (λ z. published (queue_of (thread_of (after_release m t) z)) < 2 ^ 20) (sym e) (rw same (h.small t known))
            | inr ne ↦ subst (λ x. published (queue_of x) < 2 ^ 20) (sym (release_other m t u ne)) (h.small u within)
          ];
      clock = h.clock;
    }

-- afterwards the thread has no finished event, and the others are as before
pub release_calm : (m : Model) (t : ℕ) → t < length m.threads → (thread_of (after_release m t) t).finished ≡ false
release_calm m t lt = ap (λ x. x.finished) (release_same m t lt)
