-- The state that is read off an image is sound.
use Rattle.never_cut.proofs.Common.{◌≡◌, ◌≢◌, inl, inr, ℕ, zero, suc, ◌+◌, ◌-◌, ◌^◌, ◌<◌, ◌≤◌, ◌==◌, true, false, List, length, Option, Some, None, refl, sym, ap, ◌∙◌, subst, arith, if◌then◌else◌, slice_index, ForSome, cases_lt, cases_Bool, get_or_past, TaskId, Event, Origin, Program, Memory, Clock, next_word, origin_of, HasOriginBits, due_word, origin_of-origin_word, committed, greatest_tail, Queue, Source, published, event_at, IsAccepted, thread_def, pipe_def, timer_def, source_thread, Model, ScanModel, thread_of, pipe_of, timer_of, source_of, queue_of, Readings, readings_of, IsOwnOrigin, IsTaskOf, AtMostOneFinished, saved, unsettled_into, IsQueued, IsServed, IsChain, IsSoundThread, IsSoundPipe, IsSoundTimer, IsSoundSource, IsSound, told_finished, told_released, told_held, told_queue, told_source, IsReadOff, HasChain, IsChainValue, IsTakenLast, IsServedFirst, IsBlockWord, IsImage, taken_of, written_of, IsWorn, LateClock, ManyPositions, listed_into, AreListed}
use Rattle.ink_base.specs.declared.event.Origin.TheVariants as origins
use Rattle.fram_words.specs.Header as header
use Rattle.never_cut.proofs.ReadCounts.{read_stamps}
use Rattle.never_cut.proofs.Blocks.{state_at, running_word, first_word, outputs_word, event_words, taken_count, written_count, timer_count, period_count}
use Rattle.never_cut.proofs.ReadQueues.{events_read, finished_held}
use Rattle.never_cut.proofs.ReadSources.{source_ordered}

-- the numbers of an origin of a thread's own have their bits
pub own_bits : (program : Program) (t : ℕ) (o : Origin) → IsAccepted program → IsOwnOrigin program t o → HasOriginBits o
own_bits program t (origins.Source source count) accepted own = let few = accepted.counts.sources in (let lt = own.0 in omega arith, let lt = own.2 in omega arith)
own_bits program t (origins.Pipe pipe item) accepted own = let few = accepted.counts.pipes in (let lt = own.0 in omega arith, own.2)
own_bits program t (origins.Timer timer deadline) accepted own = let few = accepted.counts.timers in (let lt = own.0 in omega arith, own.2)

-- so many readings are left as are listed
unsettled_listed : (program : Program) (readings : Readings) (listed : List ℕ) (m : Model) (t n : ℕ) →
    ((i : ℕ) → i < n → length (readings_of readings i) ≡ (source_of m i).next + slice_index listed i) → unsettled_into program readings m t n ≡ listed_into program listed t n
unsettled_listed program readings listed m t zero are = refl
unsettled_listed program readings listed m t (suc i) are =
    let here : length (readings_of readings i) - (source_of m i).next ≡ slice_index listed i = let is = are i (omega arith) in omega arith in
    ap (λ n. n + (if source_thread program i == t then length (readings_of readings i) - (source_of m i).next else 0)) (unsettled_listed program readings listed m t i (λ k lt. are k (omega arith)))
    ∙ ap (λ n. listed_into program listed t i + (if source_thread program i == t then n else 0)) here

-- a running chain has a word that isn't 0
pub next_some : (task : TaskId) → next_word (Some task) ≢ 0
next_some task e = omega arith

idle_of : (o : Option TaskId) → next_word o ≡ 0 → o ≡ None
idle_of None is = refl
idle_of (Some task) is = absurd (next_some task is)

due_fits : (o : Option ℕ) → due_word o ≤ 2 ^ 48 → ForSome o (λ due. due < 2 ^ 48)
due_fits None le due is = absurd (let clash : None ≡ Some due = is in cc)
due_fits (Some tick) le due is = let same : tick ≡ due = cc in omega arith

module _ (program : Program) (readings : Readings) (listed : List ℕ) (words : Memory) (m : Model) (accepted : IsAccepted program) (image : IsImage program words)
    (fresh : ¬ IsWorn program listed words) (read : IsReadOff program words m) (are : AreListed program listed m readings) where
  -- each word of a thread's header was checked
  checked : (t w : ℕ) → t < length program.threads → w < 48 → IsBlockWord program words t w
  checked t w known lt = image.blocks t w known (omega arith)

  module _ (t : ℕ) (known : t < length program.threads) where
    held_is : (thread_of m t).held ≡ told_held program words t
    held_is = ap (λ (q : Queue). q.held) (read.queues t known)

    finished_is : (thread_of m t).finished ≡ told_finished program words t
    finished_is = ap (λ (q : Queue). q.finished) (read.queues t known)

    places_some : 0 < (thread_def program t).queue
    places_some = let least = (accepted.threads t known).queue_least in omega arith

    held_queued : (k : ℕ) → k < length (told_held program words t) → IsQueued program t (event_at (told_held program words t) k)
    held_queued k lt = (events_read program words t (thread_def program t).queue (told_released program words t) k lt).queued

    model_queued : (k : ℕ) → k < length (thread_of m t).held → IsQueued program t (event_at (thread_of m t).held k)
    model_queued = subst (λ (l : List Event). (k : ℕ) → k < length l → IsQueued program t (event_at l k)) (sym held_is) held_queued

    model_idle : (thread_of m t).finished ≡ true → (0 < length (thread_of m t).held) × ((thread_of m t).running ≡ None)
    model_idle is =
        let done : told_finished program words t ≡ true = sym finished_is ∙ is in
        let right = image.queues t known in (
          subst (λ (l : List Event). 0 < length l) (sym held_is) (finished_held program words t right places_some done),
          idle_of (thread_of m t).running (sym (running_word program words m t known read.private) ∙ right.idle done),
        )

    -- the event that a running chain serves
    served : (task : TaskId) → (thread_of m t).running ≡ Some task → (e : Event) → (thread_of m t).event ≡ Some e → IsOwnOrigin program t e.origin → IsServed program m t e
    served task runs e has own =
        let told = event_words program words m t e known read.private has in
        let chain : HasChain words t = λ zero. next_some task (ap next_word (sym runs) ∙ (sym (running_word program words m t known read.private) ∙ zero)) in
        let back : origin_of (committed words t header.origin) ≡ e.origin = ap origin_of told.0 ∙ origin_of-origin_word e.origin (own_bits program t e.origin accepted own) in
        let found = (checked t header.origin known (omega arith)).origin refl chain in
        let same : found.0 ≡ e.origin =
        sym (origin_of-origin_word found.0 (own_bits program t found.0 accepted found.2.0)) ∙ (ap origin_of (sym found.1) ∙ back) in
        let last : IsTakenLast words t e.origin = subst (IsTakenLast words t) same found.2.1 in
        let value : IsChainValue e.origin e.value =
        subst (λ (z : Origin × ℕ). IsChainValue z.0 z.1) (λ k. (back k, told.1 k)) ((checked t header.value known (omega arith)).value refl chain) in
        let first : IsServedFirst (thread_of m t).held e.origin e.value =
        subst (λ (z : List Event × Origin × ℕ). IsServedFirst z.0 z.1 z.2) (λ k. (sym held_is k, back k, told.1 k)) ((image.queues t known).served chain) in
        by_origin e.origin e.value own last value first
      where
        by_origin : (o : Origin) (v : ℕ) → IsOwnOrigin program t o → IsTakenLast words t o → IsChainValue o v → IsServedFirst (thread_of m t).held o v →
            IsServed program m t (record { origin = o; value = v })
        by_origin (origins.Source source count) v own last value first = first
        by_origin (origins.Pipe pipe item) v own last value first =
            (own.0, own.1, last ∙ taken_count program words m t pipe.0 accepted known read.private own.0 own.1, value)
        by_origin (origins.Timer timer deadline) v own last value first = (own.0, own.1, own.2, value)

    chain_sound : ForSome (thread_of m t).running (λ task. IsChain program m t task.0)
    chain_sound task runs =
        let at : committed words t header.next ≡ task.0 + 1 = running_word program words m t known read.private ∙ ap next_word runs in
        let chain : HasChain words t = λ zero. next_some task (sym at ∙ zero) in
        let own = (checked t header.next known (omega arith)).next refl chain in
        let back : committed words t header.next - 1 ≡ task.0 = omega (arith, at) in
        let is : IsTaskOf program t task.0 = subst (IsTaskOf program t) back own in
        let event = (read.events t known).chain task runs in
        record {
          known = is.0;
          own = is.1;
          event = event.0;
          is = event.1;
          served = served task runs event.0 event.1 event.2;
          unfinished = elim (cases_Bool (thread_of m t).finished) [
            | inl is ↦ absurd (let idle = (model_idle is).1 in let clash : None ≡ Some task = sym idle ∙ runs in cc)
            | inr not ↦ not
          ];
        }

    positions : published (queue_of (thread_of m t)) + unsettled_into program readings m t (length program.sources) ≤ greatest_tail
    positions =
        let count : published (queue_of (thread_of m t)) ≡ published (told_queue program words t) = ap published (read.queues t known) in
        let same : unsettled_into program readings m t (length program.sources) ≡ listed_into program listed t (length program.sources) =
        unsettled_listed program readings listed m t (length program.sources) are in
        elim (cases_lt greatest_tail (published (told_queue program words t) + listed_into program listed t (length program.sources))) [
          | inl many ↦ absurd (fresh (ManyPositions t known many))
          | inr fits ↦ rw (count, same) fits
        ]

    -- the numbers of the state are in the words behind the header
    state_small : (k : ℕ) → slice_index (thread_of m t).state k < 2 ^ 32
    state_small k =
        elim (cases_lt k (length (thread_of m t).state)) [
          | inl lt ↦
              let h = read.private.threads t known in
              let from : 48 ≤ header.state k = omega arith in
              let at : header.state k - 48 ≡ k = omega arith in
              let is : committed words t (header.state k) ≡ slice_index (thread_of m t).state (header.state k - 48) =
              h.block (header.state k) ∙ state_at (saved program m t) h.stamp h.origin h.value (header.state k) from in
              let small : committed words t (header.state k) < 2 ^ 32 =
              (image.blocks t (header.state k) known (let size = read.shape.states t known in omega (arith, size, lt))).state from in
              subst (λ j. slice_index (thread_of m t).state j < 2 ^ 32) at (subst (λ v. v < 2 ^ 32) is small)
          | inr past ↦ let none : slice_index (thread_of m t).state k ≡ 0 = get_or_past (thread_of m t).state k 0 past in omega (arith, none)
        ]

    thread_sound : IsSoundThread program readings m t
    thread_sound = record {
      positions = positions;
      queued = model_queued;
      finished = model_idle;
      idle = (read.events t known).idle;
      chain = chain_sound;
      outputs = let is = outputs_word program words m t known read.private in let le = (checked t header.outputs known (omega arith)).outputs refl in omega (arith, is, le);
      first = let is = first_word program words m t known read.private in let le = (checked t header.first known (omega arith)).first refl in let now = read.clock in omega (arith, is, le, now);
      values = state_small;
    }

  pipe_sound : (q : ℕ) → q < length program.pipes → IsSoundPipe program m q
  pipe_sound q known =
      let pipe = accepted.pipes q known in
      let right = image.pipes q known in
      let taken : taken_of program words q ≡ (pipe_of m q).taken = taken_count program words m (pipe_def program q).reader.0 q accepted pipe.reader read.private known refl in
      let written : written_of program words q ≡ (pipe_of m q).taken + length (pipe_of m q).items = written_count program words m q accepted read.private known in
      record {
        room = let le = right.counts.room in omega (arith, taken, written, le);
        values = λ k. elim (cases_lt k (length (pipe_of m q).items)) [
          | inl lt ↦ subst (λ n. n < 2 ^ 32) (read.private.pipes q known k lt) (right.items ((pipe_of m q).taken + k) (omega (arith, taken)) (omega (arith, written)))
          | inr past ↦ let none : slice_index (pipe_of m q).items k ≡ 0 = get_or_past (pipe_of m q).items k 0 past in omega (arith, none)
        ];
      }

  timer_sound : (j : ℕ) → j < length program.timers → IsSoundTimer m j
  timer_sound j known =
      let timer = accepted.timers j known in
      let few = accepted.counts.timers in
      let t : ℕ = (timer_def program j).thread.0 in
      let due = timer_count program words m (timer_def program j).thread.0 j accepted timer.thread read.private known refl in
      let period = period_count program words m (timer_def program j).thread.0 j accepted timer.thread read.private known refl in
      record {
        due = due_fits (timer_of m j).due
            (let le = (checked (timer_def program j).thread.0 (header.due j) timer.thread (omega arith)).due j (omega arith) refl in omega (arith, due, le));
        period = let lt = (checked (timer_def program j).thread.0 (header.period j) timer.thread (omega arith)).period j (omega arith) refl in omega (arith, period, lt);
      }

  source_sound : (i : ℕ) → i < length program.sources → IsSoundSource readings m i
  source_sound i known =
      let is = read.sources i known in
      let accepted_is : (source_of m i).accepted ≡ (told_source program words i).accepted = ap (λ (s : Source). s.accepted) is in
      let next_is : (source_of m i).next ≡ (told_source program words i).next = ap (λ (s : Source). s.next) is in
      let unmarked : (source_of m i).refused ≡ false = ap (λ (s : Source). s.refused) is in
      record {
        ordered = let le = source_ordered program words i (image.sources i known) in omega (arith, accepted_is, next_is, le);
        within = let is = are i known in omega (arith, is);
        refused = λ marked. absurd (let clash : false ≡ true = sym unmarked ∙ marked in cc);
      }

  clock_early : m.clock < 2 ^ 46
  clock_early =
      elim (cases_lt (words Clock) (2 ^ 46)) [
        | inl early ↦ let now = read.clock in omega (arith, now, early)
        | inr late ↦ absurd (fresh (LateClock late))
      ]

  no_scan : (scan : ScanModel) → m.scan ≡ Some scan → ⊥
  no_scan scan is = absurd (let clash : None ≡ Some scan = sym read.scan ∙ is in cc)

  -- no earlier thread has a finished event beside another's
  only_one : AtMostOneFinished program m
  only_one t u known there here other =
      let mine : told_finished program words t ≡ true = sym (finished_is t known) ∙ here in
      let its : told_finished program words u ≡ true = sym (finished_is u there) ∙ other in
      elim (cases_lt t u) [
        | inl before ↦ absurd (let clash : true ≡ false = sym mine ∙ (image.queues u there).only its t before in cc)
        | inr le ↦ elim (cases_lt u t) [
          | inl before ↦ absurd (let clash : true ≡ false = sym its ∙ (image.queues t known).only mine u before in cc)
          | inr ge ↦ omega (arith, le, ge)
        ]
      ]

  pub read_sound : IsSound program readings m
  read_sound = record {
    shape = read.shape;
    threads = λ t known. thread_sound t known;
    pipes = pipe_sound;
    timers = timer_sound;
    sources = source_sound;
    clock = let early = clock_early in omega arith;
    scan = λ scan is. absurd (no_scan scan is);
    begun = λ scan is. absurd (no_scan scan is);
    calm = λ scan is. absurd (no_scan scan is);
    one = only_one;
    stamps = read_stamps program words m image read;
    values = λ k d lt. (read.outputs k d lt).1;
  }
