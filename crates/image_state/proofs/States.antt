-- The state that the words of an image tell is the one that is read off them.
use Rattle.image_state.proofs.Common.{◌≡◌, inl, inr, ℕ, ◌+◌, ◌-◌, ◌*◌, ◌%◌, ◌<◌, ◌≤◌, Bool, if◌then◌else◌, List, length, Some, None, refl, sym, ap, ◌∙◌, subst, arith, cases_Bool, and_parts, ltb-true, eqb-true, slice_index, get_or-map, get_or-map-range_with_len, length-map-range_with_len, All, All-permutation, ForSome, ForNone, Event, Output, Program, Memory, Log, Ring, next_word, origin_word, due_word, output_word, committed, pages_of, thread_def, pipe_def, timer_def, IsAccepted, Model, ThreadModel, PipeModel, TimerModel, SourceModel, thread_of, pipe_of, timer_of, source_of, no_thread, no_pipe, no_timer, no_source, queue_of, source_in, outputs_of, outputs_in, IsNonDecreasingBy, HasEventOf, HasShape, IsOwnOrigin, IsOutputOf, IsReadOff, IsImage, saved, flag, writes_pipe, reads_pipe, owns_timer, written_word, taken_word, timer_word, period_word, StandsThread, StandsPipe, AreLogged, log_of, taken_of, written_of, told_item, told_pipe, told_timer, told_thread, told_source_model, told_output, told_outputs, outputs_until, state_number, IsTold}
use Rattle.ink_base.specs.declared.limits.TheConstants as limits
use Rattle.fram_words.specs.Header as header
use Rattle.image_state.proofs.Blocks.{AreWords, block_says}
use Rattle.image_state.proofs.Logs.{count_is, output_is, each_told, in_logs, outputs_right, log_rises}
use Rattle.image_state.proofs.ThreadWords.{next_back, due_back, ended_back, checked, idle_told, chain_told, words_told, state_told}

module _ (program : Program) (words : Memory) (m : Model) (accepted : IsAccepted program) (image : IsImage program words)
    (beyond : (t w : ℕ) → t < length program.threads → 8 * pages_of (thread_def program t) ≤ w → committed words t w ≡ 0) (told : IsTold program words m) where
  thread_is : (t : ℕ) → t < length program.threads → thread_of m t ≡ told_thread program words t
  thread_is t known =
      ap (λ (l : List ThreadModel). Rattle.std.specs.Prelude.slice_index_or l t no_thread) told.threads
      ∙ get_or-map-range_with_len (told_thread program words) 0 (length program.threads) t t no_thread known (omega arith)

  pipe_is : (q : ℕ) → q < length program.pipes → pipe_of m q ≡ told_pipe program words q
  pipe_is q known =
      ap (λ (l : List PipeModel). Rattle.std.specs.Prelude.slice_index_or l q no_pipe) told.pipes
      ∙ get_or-map-range_with_len (told_pipe program words) 0 (length program.pipes) q q no_pipe known (omega arith)

  timer_is : (j : ℕ) → j < length program.timers → timer_of m j ≡ told_timer program words j
  timer_is j known =
      ap (λ (l : List TimerModel). Rattle.std.specs.Prelude.slice_index_or l j no_timer) told.timers
      ∙ get_or-map-range_with_len (told_timer program words) 0 (length program.timers) j j no_timer known (omega arith)

  source_is : (i : ℕ) → i < length program.sources → source_of m i ≡ told_source_model program words i
  source_is i known =
      ap (λ (l : List SourceModel). Rattle.std.specs.Prelude.slice_index_or l i no_source) told.sources
      ∙ get_or-map-range_with_len (told_source_model program words) 0 (length program.sources) i i no_source known (omega arith)

  -- the outputs of a thread are those in its log
  outputs_are : (t : ℕ) → t < length program.threads → outputs_of m t ≡ told_outputs words t
  outputs_are t known =
      let logged : outputs_in t (outputs_until words (length program.threads)) ≡ told_outputs words t = in_logs words (length program.threads) t known in
      told.outputs.kept t (subst (IsNonDecreasingBy (λ (o : Output). o.stamp)) (sym logged) (log_rises words program t image known)) ∙ logged

  -- how many items a pipe has
  items_are : (q : ℕ) → q < length program.pipes → length (pipe_of m q).items ≡ written_of program words q - taken_of program words q
  items_are q known =
      ap (λ (p : PipeModel). length p.items) (pipe_is q known) ∙ length-map-range_with_len (told_item program words q) 0 (written_of program words q - taken_of program words q)

  taken_is : (q : ℕ) → q < length program.pipes → (pipe_of m q).taken ≡ taken_of program words q
  taken_is q known = ap (λ (p : PipeModel). p.taken) (pipe_is q known)

  written_sum : (q : ℕ) → q < length program.pipes → written_of program words q ≡ (pipe_of m q).taken + length (pipe_of m q).items
  written_sum q known =
      let taken = taken_is q known in
      let items = items_are q known in
      let ordered = (image.pipes q known).counts.ordered in
      omega (arith, taken, items, ordered)

  module _ (t : ℕ) (known : t < length program.threads) where
    written_told : (q : ℕ) → q < limits.PIPES → committed words t (header.written q) ≡ written_word program m t q
    written_told q few =
        elim (cases_Bool (writes_pipe program t q)) [
          | inl own ↦
              let there : q < length program.pipes = ltb-true _ _ (and_parts _ _ own).0 in
              let writer : (pipe_def program q).writer.0 ≡ t = eqb-true _ _ (and_parts _ _ own).1 in
              let here : committed words t (header.written q) ≡ written_of program words q = ap (λ u. committed words u (header.written q)) (sym writer) in
              let sum : written_of program words q ≡ (pipe_of m q).taken + length (pipe_of m q).items = written_sum q there in
              here ∙ sum ∙ sym (ap (λ (b : Bool). if b then (pipe_of m q).taken + length (pipe_of m q).items else 0) own)
          | inr not ↦ (checked program words accepted image t known (header.written q) (omega arith)).written q few refl not
              ∙ sym (ap (λ (b : Bool). if b then (pipe_of m q).taken + length (pipe_of m q).items else 0) not)
        ]

    taken_told : (q : ℕ) → q < limits.PIPES → committed words t (header.taken q) ≡ taken_word program m t q
    taken_told q few =
        elim (cases_Bool (reads_pipe program t q)) [
          | inl own ↦
              let there : q < length program.pipes = ltb-true _ _ (and_parts _ _ own).0 in
              let reader : (pipe_def program q).reader.0 ≡ t = eqb-true _ _ (and_parts _ _ own).1 in
              ap (λ u. committed words u (header.taken q)) (sym reader) ∙ (sym (taken_is q there) ∙ sym (ap (λ (b : Bool). if b then (pipe_of m q).taken else 0) own))
          | inr not ↦ (checked program words accepted image t known (header.taken q) (omega arith)).taken q few refl not
              ∙ sym (ap (λ (b : Bool). if b then (pipe_of m q).taken else 0) not)
        ]

    due_told : (j : ℕ) → j < limits.TIMERS → committed words t (header.due j) ≡ timer_word program m t j
    due_told j few =
        elim (cases_Bool (owns_timer program t j)) [
          | inl own ↦
              let there : j < length program.timers = ltb-true _ _ (and_parts _ _ own).0 in
              let thread : (timer_def program j).thread.0 ≡ t = eqb-true _ _ (and_parts _ _ own).1 in
              let word : due_word (timer_of m j).due ≡ committed words t (header.due j) =
              ap (λ (x : TimerModel). due_word x.due) (timer_is j there) ∙ (due_back _ ∙ ap (λ u. committed words u (header.due j)) thread) in
              sym word ∙ sym (ap (λ (b : Bool). if b then due_word (timer_of m j).due else 0) own)
          | inr not ↦ (checked program words accepted image t known (header.due j) (omega arith)).foreign_due j few refl not
              ∙ sym (ap (λ (b : Bool). if b then due_word (timer_of m j).due else 0) not)
        ]

    period_told : (j : ℕ) → j < limits.TIMERS → committed words t (header.period j) ≡ period_word program m t j
    period_told j few =
        elim (cases_Bool (owns_timer program t j)) [
          | inl own ↦
              let there : j < length program.timers = ltb-true _ _ (and_parts _ _ own).0 in
              let thread : (timer_def program j).thread.0 ≡ t = eqb-true _ _ (and_parts _ _ own).1 in
              ap (λ u. committed words u (header.period j)) (sym thread)
              ∙ (sym (ap (λ (x : TimerModel). x.period) (timer_is j there)) ∙ sym (ap (λ (b : Bool). if b then (timer_of m j).period else 0) own))
          | inr not ↦ (checked program words accepted image t known (header.period j) (omega arith)).foreign_period j few refl not
              ∙ sym (ap (λ (b : Bool). if b then (timer_of m j).period else 0) not)
        ]

    words_are : AreWords (committed words t) (saved program m t)
    words_are =
        let is = thread_is t known in
        record {
          next = sym (ap (λ (x : ThreadModel). next_word x.running) is ∙ next_back (committed words t header.next));
          first = sym (ap (λ (x : ThreadModel). x.first) is);
          ended = sym (ap (λ (x : ThreadModel). x.released + flag x.finished) is ∙ ended_back program words t);
          served = sym (ap (λ (x : ThreadModel). x.served) is);
          trapped = sym (ap (λ (x : ThreadModel). x.trapped) is);
          expired = sym (ap (λ (x : ThreadModel). x.expired) is);
          outputs = sym (ap (λ (l : List Output). length l) (outputs_are t known) ∙ count_is words t);
          written = written_told;
          taken = taken_told;
          due = due_told;
          period = period_told;
          unused = λ w from below. (checked program words accepted image t known w below).unused from below;
          state = λ w behind. state_told program words accepted image t known (λ v. beyond t v known) w behind
              ∙ sym (ap (λ (x : ThreadModel). slice_index x.state (w - header.words)) is);
        }

    -- the outputs stand in the log
    logged : AreLogged (log_of words t) (outputs_of m t)
    logged =
        subst (AreLogged (log_of words t)) (sym (outputs_are t known))
        (λ n lt. back n ∙ sym (get_or-map output_word (told_outputs words t) n (told_output words t n) 0 lt ∙ ap output_word (output_is words t n (told_output words t n) lt)))
      where
        back : (n : ℕ) → words (Log t n) ≡ output_word (told_output words t n)
        back n = omega arith

    thread_stands : StandsThread words program m t
    thread_stands = record {
      stamp = committed words t header.stamp;
      origin = committed words t header.origin;
      value = committed words t header.value;
      block = block_says (committed words t) (saved program m t) words_are;
      event = subst (λ (x : ThreadModel). ForSome x.event (λ e. (committed words t header.origin ≡ origin_word e.origin) × (committed words t header.value ≡ e.value)))
          (sym (thread_is t known)) (words_told program words accepted image t known);
      log = logged;
      reached = subst (All (λ (o : Output). o.stamp ≤ committed words t header.stamp)) (sym (outputs_are t known))
          (each_told words (λ (o : Output). o.stamp ≤ committed words t header.stamp) t (λ n lt. (image.logs t n known lt).most));
      pages = image.commit_words t known;
    }

    event_of : HasEventOf program m t
    event_of = record {
      idle = subst (λ (x : ThreadModel). ForNone x.running (x.event ≡ None)) (sym (thread_is t known)) (idle_told program words accepted image t known);
      chain = subst (λ (x : ThreadModel). ForSome x.running (λ task. (e : Event) × (x.event ≡ Some e) × IsOwnOrigin program t e.origin))
          (sym (thread_is t known)) (chain_told program words accepted image t known);
    }

  pipe_stands : (q : ℕ) → q < length program.pipes → StandsPipe words program m q
  pipe_stands q known =
      subst (λ (p : PipeModel). (k : ℕ) → k < length p.items → words (Ring q ((p.taken + k) % (pipe_def program q).places)) ≡ slice_index p.items k) (sym (pipe_is q known))
      (λ k lt.
      let is = length-map-range_with_len (told_item program words q) 0 (written_of program words q - taken_of program words q) in
      sym (get_or-map-range_with_len (told_item program words q) 0 (written_of program words q - taken_of program words q) k k 0 (omega (arith, is, lt)) (omega arith)))

  shape_is : HasShape program m
  shape_is = record {
    threads = ap (λ (l : List ThreadModel). length l) told.threads ∙ length-map-range_with_len (told_thread program words) 0 (length program.threads);
    pipes = ap (λ (l : List PipeModel). length l) told.pipes ∙ length-map-range_with_len (told_pipe program words) 0 (length program.pipes);
    timers = ap (λ (l : List TimerModel). length l) told.timers ∙ length-map-range_with_len (told_timer program words) 0 (length program.timers);
    sources = ap (λ (l : List SourceModel). length l) told.sources ∙ length-map-range_with_len (told_source_model program words) 0 (length program.sources);
    states = λ t known. ap (λ (x : ThreadModel). length x.state) (thread_is t known) ∙ length-map-range_with_len (state_number words t) 0 (thread_def program t).state;
  }

  -- the state that the words tell is read off them
  pub reads_off : IsReadOff program words m
  reads_off = record {
    shape = shape_is;
    private = record {
      code = image.code;
      threads = thread_stands;
      stamps = told.commits.most;
      newest = told.commits.one;
      pipes = pipe_stands;
    };
    events = event_of;
    queues = λ t known. ap queue_of (thread_is t known);
    sources = λ i known. ap source_in (source_is i known);
    outputs = All-permutation (IsOutputOf program) _ _ told.outputs.same (outputs_right words program);
    ordered = told.outputs.ordered;
    clock = told.clock;
    scan = told.scan;
  }
