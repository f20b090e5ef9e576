-- Two states that the same words tell have the same parts.
use Rattle.going_on.proofs.Common.{◌≡◌, inl, inr, ℕ, ◌+◌, ◌-◌, ◌%◌, ◌^◌, ◌<◌, ◌≤◌, ◌==◌, true, List, [], ◌∷◌, length, get_or, Option, Some, None, refl, sym, ap, ◌∙◌, arith, slice_index, All, cases_lt, ext_get_or, get_or-map, eqb-true, Program, Model, thread_of}
use Rattle.std.proofs.lemmas.List.Elements.{All-filter, filter_passes}
use Rattle.ink_base.specs.declared.ids.TaskId.{TaskId}
use Rattle.ink_base.specs.declared.event.Event.{Event}
use Rattle.ink_base.specs.declared.output.Output.{Output}
use Rattle.fram_words.specs.Header as header
use Rattle.fram_words.specs.Held.{next_word, due_word, origin_of, output_word}
use Rattle.fram_words.specs.Places.{Memory, Log, Ring}
use Rattle.fram_words.proofs.ReadBack.{origin_of-origin_word}
use Rattle.thread_state.specs.Pages.{committed}
use Rattle.prog_check.specs.Accepted.{IsAccepted}
use Rattle.prog_check.specs.Lookup.{pipe_def, timer_def}
use Rattle.never_cut.specs.State.{pipe_of, timer_of, queue_of, no_thread, no_pipe, no_timer}
use Rattle.never_cut.specs.Commit.{outputs_of}
use Rattle.never_cut.specs.Outputs.{outputs_in}
use Rattle.never_cut.specs.Stands.{StandsPrivate, saved}
use Rattle.never_cut.specs.Sound.{HasShape}
use Rattle.never_cut.specs.ReadOff.{HasEventOf, IsOutputOf}
use Rattle.never_cut.specs.Ranges.{IsOwnOrigin}
use Rattle.never_cut.proofs.Blocks.{running_word, first_word, event_words, served_word, trapped_word, expired_word, outputs_word, taken_count, written_count, timer_count, period_count, state_at}
use Rattle.never_cut.proofs.ReadStates.{own_bits}
use Rattle.going_on.proofs.Outputs.{Rise, AreOwn, same_outputs}

-- what is known of a state that the private words tell
pub record IsTold (program : Program) (words : Memory) (m : Model) : Type 0 where
  pub shape : HasShape program m
  pub private : StandsPrivate words program m
  pub events : (t : ℕ) → t < length program.threads → HasEventOf program m t
  pub outputs : All (IsOutputOf program) m.outputs
  pub rise : Rise m.outputs

same_running : (a b : Option TaskId) → next_word a ≡ next_word b → a ≡ b
same_running None None is = refl
same_running None (Some task) is = absurd (omega arith)
same_running (Some task) None is = absurd (omega arith)
same_running (Some one) (Some two) is = let same : one.0 ≡ two.0 = omega arith in λ k. Some (record { 0 = same k })

same_due : (a b : Option ℕ) → due_word a ≡ due_word b → a ≡ b
same_due None None is = refl
same_due None (Some due) is = absurd (omega arith)
same_due (Some due) None is = absurd (omega arith)
same_due (Some one) (Some two) is = let same : one ≡ two = omega arith in λ k. Some (same k)

same_output : (a b : Output) → output_word a ≡ output_word b → a.value < 2 ^ 32 → b.value < 2 ^ 32 → a.thread.0 ≡ b.thread.0 → a ≡ b
same_output a b is small low own =
    let stamp : a.stamp ≡ b.stamp = omega arith in
    let value : a.value ≡ b.value = omega arith in
    λ k. record { stamp = stamp k; thread = record { 0 = own k }; value = value k }

-- no output is of a thread past the last
nothing_of : (program : Program) (t : ℕ) → length program.threads ≤ t → (l : List Output) → All (IsOutputOf program) l →
    All (λ (o : Output). (o.thread.0 == t) ≡ true) l → l ≡ []
nothing_of program t past [] known of = refl
nothing_of program t past (o ∷ l) known of = absurd (let low = (known 0 o (omega arith)).0 in let same = eqb-true _ _ (of 0 o (omega arith)) in omega arith)

module _ (program : Program) (words : Memory) (a b : Model) (accepted : IsAccepted program) (one : IsTold program words a) (two : IsTold program words b) where
  module _ (t : ℕ) (known : t < length program.threads) where
    running_is : (thread_of a t).running ≡ (thread_of b t).running
    running_is = same_running _ _ (sym (running_word program words a t known one.private) ∙ running_word program words b t known two.private)

    -- a number of the state, by the word behind the header
    number_is : (m : Model) → StandsPrivate words program m → (k : ℕ) → committed words t (header.words + k) ≡ slice_index (thread_of m t).state k
    number_is m stands k =
        let x = stands.threads t known in
        x.block (header.words + k) ∙ (state_at (saved program m t) x.stamp x.origin x.value (header.words + k) (omega arith)
        ∙ ap (λ n. slice_index (thread_of m t).state n) (let e : header.words + k - header.words ≡ k = omega arith in e))

    state_is : (thread_of a t).state ≡ (thread_of b t).state
    state_is =
        ext_get_or 0 (thread_of a t).state (thread_of b t).state (one.shape.states t known ∙ sym (two.shape.states t known))
        (λ k lt. sym (number_is a one.private k) ∙ number_is b two.private k)

    event_same : (e f : Event) → (thread_of a t).event ≡ Some e → (thread_of b t).event ≡ Some f → IsOwnOrigin program t e.origin →
        IsOwnOrigin program t f.origin → e ≡ f
    event_same e f has holds own owns =
        let left = event_words program words a t e known one.private has in
        let right = event_words program words b t f known two.private holds in
        let origin : e.origin ≡ f.origin =
        sym (origin_of-origin_word e.origin (own_bits program t e.origin accepted own))
        ∙ (ap origin_of (sym left.0 ∙ right.0) ∙ origin_of-origin_word f.origin (own_bits program t f.origin accepted owns)) in
        let value : e.value ≡ f.value = sym left.1 ∙ right.1 in
        λ k. record { origin = origin k; value = value k }

    event_is : (thread_of a t).event ≡ (thread_of b t).event
    event_is = by_running (thread_of a t).running refl
      where
        by_running : (o : Option TaskId) → (thread_of a t).running ≡ o → (thread_of a t).event ≡ (thread_of b t).event
        by_running None is = (one.events t known).idle is ∙ sym ((two.events t known).idle (sym running_is ∙ is))
        by_running (Some task) is =
            let x = (one.events t known).chain task is in
            let y = (two.events t known).chain task (sym running_is ∙ is) in
            x.1 ∙ (ap (λ e. Some e) (event_same x.0 y.0 x.1 y.1 x.2 y.2) ∙ sym y.1)

    thread_is : queue_of (thread_of a t) ≡ queue_of (thread_of b t) → thread_of a t ≡ thread_of b t
    thread_is queue =
        let first = sym (first_word program words a t known one.private) ∙ first_word program words b t known two.private in
        let served = sym (served_word program words a t known one.private) ∙ served_word program words b t known two.private in
        let trapped = sym (trapped_word program words a t known one.private) ∙ trapped_word program words b t known two.private in
        let expired = sym (expired_word program words a t known one.private) ∙ expired_word program words b t known two.private in
        λ k. record {
          state = state_is k;
          running = running_is k;
          event = event_is k;
          first = first k;
          held = (queue k).held;
          finished = (queue k).finished;
          released = (queue k).released;
          served = served k;
          trapped = trapped k;
          expired = expired k;
        }

    -- the outputs of the thread
    output_is : (m : Model) → IsTold program words m → (n : ℕ) (d : Output) → n < length (outputs_of m t) →
        (words (Log t n) ≡ output_word (get_or (outputs_of m t) n d)) × ((get_or (outputs_of m t) n d).value < 2 ^ 32) ×
        ((get_or (outputs_of m t) n d).thread.0 ≡ t)
    output_is m told n d lt = (
      (told.private.threads t known).log n lt ∙ get_or-map output_word (outputs_of m t) n d 0 lt,
      (All-filter (λ (o : Output). o.thread.0 == t) (IsOutputOf program) m.outputs told.outputs n d lt).1,
      eqb-true _ _ (filter_passes (λ (o : Output). o.thread.0 == t) m.outputs n d lt),
    )

    outputs_same : outputs_of a t ≡ outputs_of b t
    outputs_same =
        let d : Output = record { stamp = 0; thread = record { 0 = 0 }; value = 0 } in
        let long : length (outputs_of a t) ≡ length (outputs_of b t) = sym (outputs_word program words a t known one.private)
        ∙ outputs_word program words b t known two.private in
        ext_get_or d (outputs_of a t) (outputs_of b t) long
        (λ n lt.
        let x = output_is a one n d lt in
        let y = output_is b two n d (omega (arith, long)) in
        same_output (get_or (outputs_of a t) n d) (get_or (outputs_of b t) n d) (sym x.0 ∙ y.0) x.1 y.1 (x.2 ∙ sym y.2))

  pub threads_are : ((t : ℕ) → t < length program.threads → queue_of (thread_of a t) ≡ queue_of (thread_of b t)) → a.threads ≡ b.threads
  threads_are queues =
      ext_get_or no_thread a.threads b.threads (one.shape.threads ∙ sym two.shape.threads)
      (λ t lt. let known : t < length program.threads = omega (arith, one.shape.threads) in thread_is t known (queues t known))

  module _ (q : ℕ) (known : q < length program.pipes) where
    pipe_taken : (pipe_of a q).taken ≡ (pipe_of b q).taken
    pipe_taken =
        let reader = (accepted.pipes q known).reader in
        sym (taken_count program words a (pipe_def program q).reader.0 q accepted reader one.private known refl)
        ∙ taken_count program words b (pipe_def program q).reader.0 q accepted reader two.private known refl

    pipe_length : length (pipe_of a q).items ≡ length (pipe_of b q).items
    pipe_length = omega
        (arith, written_count program words a q accepted one.private known, written_count program words b q accepted two.private known, pipe_taken)

    pipe_items : (pipe_of a q).items ≡ (pipe_of b q).items
    pipe_items =
        ext_get_or 0 (pipe_of a q).items (pipe_of b q).items pipe_length
        (λ k lt.
        sym (one.private.pipes q known k lt)
        ∙ (ap (λ n. words (Ring q ((n + k) % (pipe_def program q).places))) pipe_taken ∙ two.private.pipes q known k (omega (arith, pipe_length))))

    pipe_is : pipe_of a q ≡ pipe_of b q
    pipe_is = λ k. record { items = pipe_items k; taken = pipe_taken k }

  timer_is : (j : ℕ) → j < length program.timers → timer_of a j ≡ timer_of b j
  timer_is j known =
      let t : ℕ = (timer_def program j).thread.0 in
      let owner = accepted.timers j known in
      let due = same_due _ _
      (sym (timer_count program words a t j accepted owner.thread one.private known refl)
      ∙ timer_count program words b t j accepted owner.thread two.private known refl) in
      let period = sym (period_count program words a t j accepted owner.thread one.private known refl)
      ∙ period_count program words b t j accepted owner.thread two.private known refl in
      λ k. record { due = due k; period = period k }

  pub pipes_are : a.pipes ≡ b.pipes
  pipes_are = ext_get_or no_pipe a.pipes b.pipes (one.shape.pipes ∙ sym two.shape.pipes) (λ q lt. pipe_is q (omega (arith, one.shape.pipes)))

  pub timers_are : a.timers ≡ b.timers
  timers_are = ext_get_or no_timer a.timers b.timers (one.shape.timers ∙ sym two.shape.timers) (λ j lt. timer_is j (omega (arith, one.shape.timers)))

  -- no thread but the program's puts out anything
  outputs_told : (t : ℕ) → outputs_in t a.outputs ≡ outputs_in t b.outputs
  outputs_told t =
      elim (cases_lt t (length program.threads)) [
        | inl known ↦ outputs_same t known
        | inr past ↦ none a one t past ∙ sym (none b two t past)
      ]
    where
      none : (m : Model) → IsTold program words m → (t : ℕ) → length program.threads ≤ t → outputs_in t m.outputs ≡ []
      none m told t past = nothing_of program t past (outputs_in t m.outputs)
          (All-filter (λ (o : Output). o.thread.0 == t) (IsOutputOf program) m.outputs told.outputs) (filter_passes (λ (o : Output). o.thread.0 == t) m.outputs)

  pub outputs_are : AreOwn b.outputs → a.outputs ≡ b.outputs
  outputs_are own = same_outputs a.outputs b.outputs one.rise two.rise own outputs_told

-- the number of commits is the greatest stamp
commits_least : (program : Program) (words : Memory) (a b : Model) → StandsPrivate words program a → StandsPrivate words program b → a.commits ≤ b.commits
commits_least program words a b one two = elim one.newest [
  | inl none ↦ omega (arith, none)
  | inr top ↦ let less = two.stamps top.0 top.1 in omega (arith, top.2, less)
]

pub commits_are : (program : Program) (words : Memory) (a b : Model) → StandsPrivate words program a → StandsPrivate words program b → a.commits ≡ b.commits
commits_are program words a b one two = let less = commits_least program words a b one two in let more = commits_least program words b a two one in omega arith
