-- The words of a thread's block, where words stand for a sound state: each of them is one of an image, and a running chain has the first held event.
use Rattle.never_cut.proofs.Common.{◌≡◌, inl, inr, ℕ, ◌+◌, ◌-◌, ◌^◌, ◌<◌, ◌≤◌, Bool, true, false, List, length, Option, Some, None, refl, sym, ap, ◌∙◌, subst, arith, if◌then◌else◌, slice_index, le-ltb, ForSome, cases_lt, get_or_past, TaskId, Event, Origin, Program, Memory, next_word, origin_word, origin_of, due_word, origin_of-origin_word, committed, IsAccepted, Model, thread_of, pipe_of, timer_of, queue_of, Readings, saved, thread_words, owns_timer, Stands, IsOwnOrigin, IsTaskOf, IsQueued, IsServed, IsChain, IsSound, Lasts, told_held, told_queue, HasChain, IsChainOrigin, IsTakenLast, IsChainValue, IsBlockWord, IsServedFirst}
use Rattle.ink_base.specs.declared.limits.TheConstants as limits
use Rattle.ink_base.specs.declared.event.Origin.TheVariants as origins
use Rattle.fram_words.specs.Header as header
use Rattle.never_cut.proofs.Blocks.{running_word, first_word, outputs_word, event_words, taken_count, written_at, taken_at, due_at, period_at, state_at, unused_at}
use Rattle.never_cut.proofs.ReadStates.{own_bits}
use Rattle.never_cut.proofs.ToldQueues.{queue_told}

-- what is chosen where a test holds, else 0
chosen_below : (b : Bool) (v n : ℕ) → v < n → 0 < n → (if b then v else 0) < n
chosen_below true v n lt some = lt
chosen_below false v n lt some = some

module _ (program : Program) (readings : Readings) (words : Memory) (m : Model) (accepted : IsAccepted program) (sound : IsSound program readings m) (lasts : Lasts 0 m)
    (stands : Stands words program m) where
  module _ (t : ℕ) (known : t < length program.threads) where
    told : told_queue program words t ≡ queue_of (thread_of m t)
    told = queue_told program readings words m accepted sound stands t known

    -- a thread whose word says so runs a chain
    chain_of : HasChain words t → (task : TaskId) × ((thread_of m t).running ≡ Some task)
    chain_of chain = by_running (thread_of m t).running refl
      where
        by_running : (o : Option TaskId) → (thread_of m t).running ≡ o → (task : TaskId) × ((thread_of m t).running ≡ Some task)
        by_running None is = absurd (chain (running_word program words m t known stands.private ∙ ap next_word is))
        by_running (Some task) is = (task, is)

    -- a served event is one of the thread's own
    own_served : (o : Origin) (v : ℕ) → IsServed program m t (record { origin = o; value = v }) → IsOwnOrigin program t o
    own_served (origins.Source source count) v served =
        let queued = subst (λ e. IsQueued program t e) served.1 ((sound.threads t known).queued 0 served.0) in (queued.0, queued.1, queued.2)
    own_served (origins.Pipe pipe item) v served = (served.0, served.1, let room = lasts.taken pipe.0 in let is = served.2 in omega arith)
    own_served (origins.Timer timer deadline) v served = (served.0, served.1, served.2)

    served_value : (o : Origin) (v : ℕ) → IsServed program m t (record { origin = o; value = v }) → IsChainValue o v
    served_value (origins.Source source count) v served =
        let queued = subst (λ e. IsQueued program t e) served.1 ((sound.threads t known).queued 0 served.0) in queued.3
    served_value (origins.Pipe pipe item) v served = served.3
    served_value (origins.Timer timer deadline) v served = served.3

    served_last : (o : Origin) (v : ℕ) → IsServed program m t (record { origin = o; value = v }) → IsTakenLast words t o
    served_last (origins.Source source count) v served = tt
    served_last (origins.Pipe pipe item) v served = served.2 ∙ sym (taken_count program words m t pipe.0 accepted known stands.private served.0 served.1)
    served_last (origins.Timer timer deadline) v served = tt

    served_first : (o : Origin) (v : ℕ) → IsServed program m t (record { origin = o; value = v }) → IsServedFirst (thread_of m t).held o v
    served_first (origins.Source source count) v served = served
    served_first (origins.Pipe pipe item) v served = tt
    served_first (origins.Timer timer deadline) v served = tt

    module _ (chain : HasChain words t) where
      runs : IsChain program m t (chain_of chain).0.0
      runs = (sound.threads t known).chain (chain_of chain).0 (chain_of chain).1

      event_is : (committed words t header.origin ≡ origin_word runs.event.origin) × (committed words t header.value ≡ runs.event.value)
      event_is = event_words program words m t runs.event known stands.private runs.is

      own : IsOwnOrigin program t runs.event.origin
      own = own_served runs.event.origin runs.event.value runs.served

      origin_back : origin_of (committed words t header.origin) ≡ runs.event.origin
      origin_back = ap origin_of event_is.0 ∙ origin_of-origin_word runs.event.origin (own_bits program t runs.event.origin accepted own)

      next_right : IsTaskOf program t (committed words t header.next - 1)
      next_right =
          let at : committed words t header.next ≡ (chain_of chain).0.0 + 1 = running_word program words m t known stands.private ∙ ap next_word (chain_of chain).1 in
          let back : (chain_of chain).0.0 ≡ committed words t header.next - 1 = omega (arith, at) in
          subst (IsTaskOf program t) back (runs.known, runs.own)

      origin_right : (o : Origin) × (committed words t header.origin ≡ origin_word o) × IsChainOrigin program words t o
      origin_right = (runs.event.origin, event_is.0, (own, served_last runs.event.origin runs.event.value runs.served))

      value_right : IsChainValue (origin_of (committed words t header.origin)) (committed words t header.value)
      value_right = subst (λ (z : Origin × ℕ). IsChainValue z.0 z.1) (λ k. (sym origin_back k, sym event_is.1 k)) (served_value runs.event.origin runs.event.value runs.served)

      pub first_right : IsServedFirst (told_held program words t) (origin_of (committed words t header.origin)) (committed words t header.value)
      first_right =
          subst (λ (z : List Event × Origin × ℕ). IsServedFirst z.0 z.1 z.2) (λ k. ((sym told k).held, sym origin_back k, sym event_is.1 k))
          (served_first runs.event.origin runs.event.value runs.served)

    abbrev block : (w : ℕ) → committed words t w ≡ slice_index (thread_words (saved program m t) (stands.private.threads t known).stamp (stands.private.threads t known).origin (stands.private.threads t known).value) w
    block = (stands.private.threads t known).block

    written_is : (q : ℕ) → q < limits.PIPES → committed words t (header.written q) ≡ (saved program m t).written q
    written_is q lt = block (header.written q) ∙ written_at (saved program m t) _ _ _ q lt

    taken_is : (q : ℕ) → q < limits.PIPES → committed words t (header.taken q) ≡ (saved program m t).taken q
    taken_is q lt = block (header.taken q) ∙ taken_at (saved program m t) _ _ _ q lt

    due_is : (j : ℕ) → j < limits.TIMERS → committed words t (header.due j) ≡ (saved program m t).due j
    due_is j lt = block (header.due j) ∙ due_at (saved program m t) _ _ _ j lt

    period_is : (j : ℕ) → j < limits.TIMERS → committed words t (header.period j) ≡ (saved program m t).period j
    period_is j lt = block (header.period j) ∙ period_at (saved program m t) _ _ _ j lt

    -- behind the header stands the state
    state_is : (w : ℕ) → header.words ≤ w → committed words t w ≡ slice_index (thread_of m t).state (w - header.words)
    state_is w le = block w ∙ state_at (saved program m t) _ _ _ w le

    pub block_right : (w : ℕ) → IsBlockWord program words t w
    block_right w = record {
      next = λ _ chain. next_right chain;
      first = λ _. let is = first_word program words m t known stands.private in let le = (sound.threads t known).first in let now = stands.shared.clock in omega (arith, is, le, now);
      origin = λ _ chain. origin_right chain;
      value = λ _ chain. value_right chain;
      outputs = λ _. let is = outputs_word program words m t known stands.private in let le = (sound.threads t known).outputs in omega (arith, is, le);
      written = λ q lt _ foreign. written_is q lt ∙ ap (λ (b : Bool). if b then (pipe_of m q).taken + length (pipe_of m q).items else 0) foreign;
      taken = λ q lt _ foreign. taken_is q lt ∙ ap (λ (b : Bool). if b then (pipe_of m q).taken else 0) foreign;
      due = λ j lt _. let below = due_below j in omega (arith, due_is j lt, below);
      period = λ j lt _. let below = period_below j in omega (arith, period_is j lt, below);
      foreign_due = λ j lt _ foreign. due_is j lt ∙ ap (λ (b : Bool). if b then due_word (timer_of m j).due else 0) foreign;
      foreign_period = λ j lt _ foreign. period_is j lt ∙ ap (λ (b : Bool). if b then (timer_of m j).period else 0) foreign;
      unused = λ le lt. block w ∙ unused_at (saved program m t) _ _ _ w le lt;
      state = λ le. let small = (sound.threads t known).values (w - header.words) in omega (arith, state_is w le, small);
      rest = λ le.
          let size = sound.shape.states t known in
          state_is w (omega arith) ∙ get_or_past (thread_of m t).state (w - header.words) 0 (omega (arith, size));
    }
      where
        word_fits : (o : Option ℕ) → ForSome o (λ due. due < 2 ^ 48) → due_word o < 2 ^ 48 + 1
        word_fits None fits = omega arith
        word_fits (Some due) fits = let lt = fits due refl in omega arith

        none_below : (j : ℕ) → length program.timers ≤ j → (n v : ℕ) → 0 < n → (if owns_timer program t j then v else 0) < n
        none_below j past n v some =
            rw (le-ltb j (length program.timers) past) some

        due_below : (j : ℕ) → (saved program m t).due j < 2 ^ 48 + 1
        due_below j =
            elim (cases_lt j (length program.timers)) [
              | inl there ↦ chosen_below (owns_timer program t j) (due_word (timer_of m j).due) (2 ^ 48 + 1) (word_fits (timer_of m j).due (sound.timers j there).due) (omega arith)
              | inr past ↦ none_below j past (2 ^ 48 + 1) (due_word (timer_of m j).due) (omega arith)
            ]

        period_below : (j : ℕ) → (saved program m t).period j < 2 ^ 32
        period_below j =
            elim (cases_lt j (length program.timers)) [
              | inl there ↦ chosen_below (owns_timer program t j) (timer_of m j).period (2 ^ 32) (sound.timers j there).period (omega arith)
              | inr past ↦ none_below j past (2 ^ 32) (timer_of m j).period (omega arith)
            ]
