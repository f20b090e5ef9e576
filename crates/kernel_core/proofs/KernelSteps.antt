-- Each access of the kernel is a step that the sources' side is proved for.
use Rattle.kernel_core.proofs.Common.{◌≡◌, inl, ℕ, ◌<◌, false, List, length, get_or, set, refl, sym, ap, subst, arith, ThreadId, Commit, Slot, Ack, Memory, Store, store, perform, place_of, Becomes, stored, Row, Queue, with_finished, without_first, QueueBecomes, Step, Model, ThreadModel, SourceModel, thread_of, queue_of, source_in, no_thread, no_source, effect, released, IsAllowedStore, Setup, sides, sides_of, seen}
use Rattle.fram_words.specs.Places.{Access}
use Rattle.ink_base.specs.declared.entry.Entry.TheVariants as entries
use Rattle.source_laws.specs.Steps as steps
use Rattle.kernel_core.proofs.Sides.{Becomes-queue}
use Rattle.kernel_core.proofs.Quiet.{IsUnshared, quiet}

module _ (s : Setup) (words : Memory) (m : Model) (rows : ℕ → Row) where
  -- the step to these words and this state
  abbrev pub To : Memory → Model → Type 0
  To new next = Step (sides s) (seen words m rows) (seen new next rows)

  -- no word of a queue or a source changes, and no queue or source
  pub still : (a : Access) (next : Model) → IsUnshared (place_of a) → sides_of next ≡ sides_of m → To (perform words a) next
  still a next own same = steps.Apart (quiet words a own) same (λ i. inl refl)

  -- a load, after which queues and sources are as before
  pub loaded : (next : Model) → sides_of next ≡ sides_of m → To words next
  loaded next same = steps.Apart (λ p h. refl) same (λ i. inl refl)

  pub ack_step : (i v : ℕ) → IsAllowedStore s.program words m (Ack i) v → To (store words (Ack i) v) m
  ack_step i v (t, known, count, finishing, is) =
      steps.Acknowledge t i count finishing (subst (λ (z : ℕ). Becomes (Ack i) z words (store words (Ack i) v)) is (stored words (Ack i) v)) refl refl

  released_sides : (t : ThreadId) → t.0 < length m.threads →
      QueueBecomes t.0 (without_first ((sides_of m).queue t.0)) (sides_of m) (sides_of (effect s.program s.readings m (entries.Release t)))
  released_sides t lt = record { queue = Becomes-queue m t.0 (released (thread_of m t.0)) lt; source = refl }

  pub empty_step : (t : ThreadId) (n v : ℕ) → length m.threads ≡ length s.program.threads → IsAllowedStore s.program words m (Slot t.0 n) v →
      To (store words (Slot t.0 n) v) (effect s.program s.readings m (entries.Release t))
  empty_step t n v count (known, i, number, finishing, acked, at, is) =
      let lt : t.0 < length m.threads = omega arith in
      steps.Empties t.0 i number finishing acked
      (subst (λ (z : ℕ × ℕ). Becomes (Slot t.0 z.0) z.1 words (store words (Slot t.0 n) v)) (λ k. (at k, is k)) (stored words (Slot t.0 n) v))
      (released_sides t lt) refl

  -- a commit of which the queue's event is finished
  pub commit_step : (t w : ℕ) (x : ThreadModel) (next : Model) → t < length m.threads → next.threads ≡ set m.threads t x → next.sources ≡ m.sources →
      queue_of x ≡ with_finished (queue_of (thread_of m t)) → (thread_of m t).finished ≡ false → 0 < length (thread_of m t).held → To (store words (Commit t) w) next
  commit_step t w x next lt threads sources is open_queue some =
      steps.Commit t (open_queue, some)
      (quiet words (Store (Commit t) w) (λ h. h))
      (record {
        queue = subst (λ (z : Queue × List ThreadModel). Becomes t z.0 (sides_of m).queue (λ j. queue_of (get_or z.1 j no_thread)))
            (λ k. (is k, sym threads k)) (Becomes-queue m t x lt);
        source = ap (λ (l : List SourceModel). λ j. source_in (get_or l j no_source)) sources;
      })
      refl
