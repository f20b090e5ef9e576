-- The last state is a state of the never-cut kernel.
use Rattle.std.proofs.Common.{◌≡◌, inl, inr, ℕ, zero, suc, ◌+◌, ◌-◌, ◌*◌, ◌^◌, ◌<◌, ◌≤◌, ◌==◌, cond, Bool, true, false, List, [], ◌++◌, drop, length, slice_index, get_or, sym, ap, ◌∙◌, subst, arith, length-append, Option, All}
use Rattle.std.specs.Option.{ForSome}
use Rattle.std.proofs.lemmas.Bool.{false≢true, cases_lt}
use Rattle.std.proofs.lemmas.List.{get_or_append_left, get_or_past}
use Rattle.std.proofs.lemmas.List.Elements.{All-get_or}
use Rattle.std.proofs.lemmas.List.FromFn.{length-map-range_with_len}
use Rattle.ink_base.specs.declared.event.Event.{Event}
use Rattle.ink_base.specs.declared.event.Origin.{Origin}
use Rattle.ink_base.specs.declared.event.Origin.TheVariants as origins
use Rattle.ink_base.specs.declared.ids.TaskId.{TaskId}
use Rattle.ink_base.specs.declared.limits.TheConstants as limits
use Rattle.ink_base.specs.declared.output.Output.{Output}
use Rattle.push_core.specs.Table.{greatest_tail}
use Rattle.push_core.specs.Queue.{published, event_at, no_event}
use Rattle.prog_check.specs.Lookup.{thread_def, pipe_def, source_thread}
use Rattle.never_cut.specs.declared.model.Model.{Model}
use Rattle.never_cut.specs.declared.pipe_model.PipeModel.{PipeModel}
use Rattle.never_cut.specs.declared.timer_model.TimerModel.{TimerModel}
use Rattle.never_cut.specs.declared.scan_model.ScanModel.{ScanModel}
use Rattle.never_cut.specs.declared.source_model.SourceModel.{SourceModel}
use Rattle.never_cut.specs.declared.thread_model.ThreadModel.{ThreadModel}
use Rattle.never_cut.specs.State.{thread_of, queue_of, no_pipe, no_timer}
use Rattle.never_cut.specs.Commit.{outputs_of}
use Rattle.never_cut.specs.Entries.{readings_of, IsCalm}
use Rattle.never_cut.specs.Sound.{IsSound, IsSoundThread, IsSoundSource, IsChain, IsServed, IsQueued, HasStamps, sources_in, unsettled_into}
use Rattle.never_cut.specs.Within.{Lasts, LastsThread, HasRoomFor, is_scanning}
use Rattle.never_cut.specs.Stands.{flag}
use Rattle.never_cut.specs.kept.Actors.{without_held}
use Rattle.never_cut.proofs.Follows.{follow_released, follow_finished, follow_running, follow_event, follow_first_commit, follow_calm}
use Rattle.job_parts.specs.Job.{JobParts}
use Rattle.event_queue.specs.Calls.{mine_of, released_of}
use Rattle.event_queue.specs.Events.{Entry}
use Rattle.event_queue.specs.Rule.{published_into}
use Rattle.event_queue.specs.Views.{queue_of as queue_in}
use Rattle.live_account.specs.declared.record.LiveRecord.{LiveRecord}
use Rattle.live_account.specs.Kernel.{events_in}
use Rattle.live_account.specs.Queues.{source_state}
use Rattle.live_words.specs.Ends.{IsLeft, source_by}
use Rattle.live_words.proofs.Lists.{for_some}
use Rattle.live_words.proofs.Follow.{calls, own_state, last, follows, held_last, clock_word, thread_count}
use Rattle.live_words.proofs.Queues.{left_count, left_at, entry_at}
use Rattle.live_words.proofs.Standing.{last_source}

module _ (job : JobParts) (r : LiveRecord) (left : IsLeft job r) where
  abbrev m : Model
  m = own_state job r left

  abbrev end : Model
  end = last job r left

  -- no source has too many readings
  few_readings : (i : ℕ) → length (readings_of job.readings i) ≤ limits.READINGS
  few_readings i =
      elim (cases_lt i (length job.readings)) [
        | inl lt ↦ let is = All-get_or Rattle.job_parts.specs.Job.AreReadings job.readings i [] lt left.is_job.readings in let few = is.count in omega arith
        | inr past ↦ let none : length (readings_of job.readings i) ≡ 0 = ap length (get_or_past job.readings i [] past) in omega arith
      ]

  -- what a source has published and what it hasn't settled are not more than its readings
  of_source : (i : ℕ) → i < length job.program.sources → length (mine_of (left.finished.calls.source i)) + (length (readings_of job.readings i) - (sources_in end i).next) ≤ limits.READINGS
  of_source i lt =
      let told = left.sources i lt in
      let next : (sources_in end i).next ≡ (source_by job.program r i (slice_index left.srcs i)).next = ap (λ (s : SourceModel). s.next) (last_source job r left i lt) in
      omega (arith, next, told.published, told.ordered, told.within, few_readings i)

  -- so for the sources of a queue
  of_sources : (t k : ℕ) → k ≤ length job.program.sources → published_into left.lay left.finished.calls.source t k + unsettled_into job.program job.readings end t k ≤ k * limits.READINGS
  of_sources t zero le = omega arith
  of_sources t (suc k) le =
      let rest = of_sources t k (omega arith) in
      let same : (queue_in left.lay k == t) ≡ (source_thread job.program k == t) = ap (λ (u : ℕ). u == t) (left.is_lay.queue k (omega arith)) in
      let one = of_source k (omega arith) in
      let here = by_queue (source_thread job.program k == t) (length (mine_of (left.finished.calls.source k))) (length (readings_of job.readings k) - (sources_in end k).next) one in
      let mine : cond (queue_in left.lay k == t) (length (mine_of (left.finished.calls.source k))) 0 ≡ cond (source_thread job.program k == t) (length (mine_of (left.finished.calls.source k))) 0 =
      ap (λ (b : Bool). cond b (length (mine_of (left.finished.calls.source k))) 0) same in
      omega (arith, rest, here, mine)
    where
      by_queue : (b : Bool) (x y : ℕ) → x + y ≤ limits.READINGS → cond b x 0 + cond b y 0 ≤ limits.READINGS
      by_queue true x y h = h
      by_queue false x y h = omega arith

  module _ (t : ℕ) (known : t < length job.program.threads) where
    held : (thread_of end t).held ≡ drop (released_of t (calls job r left)) (events_in r t)
    held = held_last job r left t known

    released_is : (thread_of end t).released ≡ released_of t (calls job r left)
    released_is = follow_released m end t (follows job r left) ∙ left.ends.released t known

    entries : List Entry
    entries = left.finished.entries t

    positions : published (queue_of (thread_of end t)) + unsettled_into job.program job.readings end t (length job.program.sources) ≤ greatest_tail
    positions =
        let size : length (thread_of end t).held ≡ length (left.finished.entries t) - released_of t (calls job r left) =
        ap length held ∙ left_count (left.finished.entries t) (events_in r t) (left.events t known) (released_of t (calls job r left)) in
        let behind : released_of t (calls job r left) ≤ length (left.finished.entries t) =
        subst (λ l. released_of t l ≤ length (left.finished.entries t)) left.finished.kernel_is (left.finished.kept.queues t).behind in
        let number : length (left.finished.entries t) ≡ published_into left.lay left.finished.calls.source t (length job.program.sources) =
        (left.finished.kept.events t).number ∙ ap (published_into left.lay left.finished.calls.source t) left.is_lay.sources in
        let few : length job.program.sources ≤ limits.SOURCES = let n = left.finished.limits.sources in let same = left.is_lay.sources in omega arith in
        omega (arith, size, behind, number, few, released_is, of_sources t (length job.program.sources) (omega arith))

    queued : (k : ℕ) → k < length (thread_of end t).held → IsQueued job.program t (event_at (thread_of end t).held k)
    queued k lt =
        let within : k < length (drop (released_of t (calls job r left)) (events_in r t)) = omega (arith, lt, ap length held) in
        let at = entry_at (left.finished.entries t) (events_in r t) (left.events t known) (released_of t (calls job r left)) k within in
        let is = (left.finished.kept.events t).events _ _ at in
        let source = is.source in
        let queue = is.queue in
        let lt_sources : (get_or (left.finished.entries t) (released_of t (calls job r left) + k) (record { source = 0; count = 0; reading = 0; value = 0 })).source < length job.program.sources =
        omega (arith, source, left.is_lay.sources) in
        subst (IsQueued job.program t) (sym (ap (λ (l : List Event). event_at l k) held ∙ left_at (left.finished.entries t) (events_in r t) (left.events t known) (released_of t (calls job r left)) k within))
        (lt_sources, sym (left.is_lay.queue _ lt_sources) ∙ queue, is.count, is.value)

    -- what the own state holds is held first
    held_more : 0 < length (thread_of m t).held → (0 < length (thread_of end t).held) × (event_at (thread_of end t).held 0 ≡ event_at (thread_of m t).held 0)
    held_more some_held =
        let f = follows job r left in
        let more : (thread_of end t).held ≡ (thread_of m t).held ++ f.more t = f.held t in
        let size : length (thread_of end t).held ≡ length (thread_of m t).held + length (f.more t) = ap length more ∙ length-append (thread_of m t).held (f.more t) in
        (omega (arith, some_held, size), ap (λ (l : List Event). event_at l 0) more ∙ get_or_append_left (thread_of m t).held (f.more t) no_event 0 some_held)

    served : (e : Event) → IsServed job.program m t e → IsServed job.program end t e
    served e = by_origin e.origin e.value
      where
        by_origin : (o : Origin) (value : ℕ) → IsServed job.program m t (record { origin = o; value = value }) → IsServed job.program end t (record { origin = o; value = value })
        by_origin (origins.Source source count) value h = let h2 = held_more h.0 in (h2.0, h2.1 ∙ h.1)
        by_origin (origins.Pipe pipe item) value h = (h.0, h.1, h.2 ∙ sym (ap (λ (l : List PipeModel). (get_or l pipe.0 no_pipe).taken) (follows job r left).pipes), h.3)
        by_origin (origins.Timer timer deadline) value h = h

    chain : (task : ℕ) → IsChain job.program m t task → IsChain job.program end t task
    chain task h = record {
      known = h.known;
      own = h.own;
      event = h.event;
      is = follow_event m end t (follows job r left) ∙ h.is;
      served = served h.event h.served;
      unfinished = follow_finished m end t (follows job r left) ∙ h.unfinished;
    }

    thread_sound : IsSoundThread job.program job.readings end t
    thread_sound =
        let f = follows job r left in
        let old = left.ends.sound.threads t known in
        let running = follow_running m end t f in
        record {
          positions = positions;
          queued = queued;
          finished = λ is. let h = old.finished (sym (follow_finished m end t f) ∙ is) in ((held_more h.0).0, running ∙ h.1);
          idle = λ is. follow_event m end t f ∙ old.idle (sym running ∙ is);
          chain = subst (λ (o : Option TaskId). ForSome o (λ task. IsChain job.program end t task.0)) (sym running)
              (for_some (λ task. IsChain job.program m t task.0) (λ task. IsChain job.program end t task.0) (thread_of m t).running (λ task h. chain task.0 h) old.chain);
          outputs = subst (λ (l : List Output). length (outputs_of (record m { outputs = l }) t) ≤ (thread_def job.program t).log) (sym f.outputs) old.outputs;
          first = omega (arith, follow_first_commit m end t f, old.first, f.clock);
          values = λ k. subst (λ (l : List ℕ). slice_index l k < 2 ^ 32) (sym (ap (λ (x : ThreadModel). x.state) (f.threads t))) (old.values k);
        }

  source_sound : (i : ℕ) → i < length job.program.sources → IsSoundSource job.readings end i
  source_sound i lt =
      let told = left.sources i lt in
      let is = last_source job r left i lt in
      record {
        ordered = omega (arith, ap (λ (s : SourceModel). s.accepted) is, ap (λ (s : SourceModel). s.next) is, told.ordered);
        within = omega (arith, ap (λ (s : SourceModel). s.next) is, told.within);
        refused = λ refused. absurd (false≢true (sym (ap (λ (s : SourceModel). s.refused) is) ∙ refused));
      }

  pub sound : IsSound job.program job.readings end
  sound =
      let f = follows job r left in
      let old = left.ends.sound in
      record {
        shape = record {
          threads = thread_count job r left ∙ old.shape.threads;
          pipes = ap length f.pipes ∙ old.shape.pipes;
          timers = ap length f.timers ∙ old.shape.timers;
          sources = length-map-range_with_len (source_state job.program r) 0 (length job.program.sources);
          states = λ t lt. ap (λ (x : ThreadModel). length x.state) (f.threads t) ∙ old.shape.states t lt;
        };
        threads = thread_sound;
        pipes = λ q lt.
            let pipe = old.pipes q lt in
            record {
              room = subst (λ (l : List PipeModel). length (get_or l q no_pipe).items ≤ (pipe_def job.program q).places) (sym f.pipes) pipe.room;
              values = λ k. subst (λ (l : List PipeModel). slice_index (get_or l q no_pipe).items k < 2 ^ 32) (sym f.pipes) (pipe.values k);
            };
        timers = λ j lt.
            let timer = old.timers j lt in
            record {
              due = subst (λ (l : List TimerModel). ForSome (get_or l j no_timer).due (λ due. due < 2 ^ 48)) (sym f.timers) timer.due;
              period = subst (λ (l : List TimerModel). (get_or l j no_timer).period < 2 ^ 32) (sym f.timers) timer.period;
            };
        sources = source_sound;
        clock = let limit = left.finished.kept.clock.limit in omega (arith, limit, clock_word job r left);
        scan = subst (λ (o : Option ScanModel). ForSome o (λ scan. scan.time ≤ end.clock)) (sym f.scan)
            (for_some (λ scan. scan.time ≤ m.clock) (λ scan. scan.time ≤ end.clock) m.scan (λ scan h. omega (arith, h, f.clock)) old.scan);
        begun = subst (λ (o : Option ScanModel). ForSome o (λ scan. (t : ℕ) → (thread_of end t).first ≤ scan.time)) (sym f.scan)
            (for_some (λ scan. (t : ℕ) → (thread_of m t).first ≤ scan.time) (λ scan. (t : ℕ) → (thread_of end t).first ≤ scan.time) m.scan (λ scan h t. omega (arith, h t, follow_first_commit m end t f)) old.begun);
        calm = subst (λ (o : Option ScanModel). ForSome o (λ scan. IsCalm job.program end)) (sym f.scan)
            (for_some (λ scan. IsCalm job.program m) (λ scan. IsCalm job.program end) m.scan (λ scan h. follow_calm job.program m end f h) old.calm);
        one = λ t u known other mine its. old.one t u known other (sym (follow_finished m end t f) ∙ mine) (sym (follow_finished m end u f) ∙ its);
        stamps = subst (λ (z : ℕ × List Output). HasStamps z.0 z.1) (λ j. (sym f.commits j, sym f.outputs j)) old.stamps;
        values = subst (All (λ (o : Output). o.value < 2 ^ 32)) (sym f.outputs) old.values;
      }

  -- the counts of a thread don't depend on its queue's events
  thread_lasts : (scanning : Bool) (x y : ThreadModel) → without_held y ≡ without_held x → LastsThread 0 scanning x → LastsThread 0 scanning y
  thread_lasts scanning x y same h = record {
    ended = subst (λ (z : ThreadModel). HasRoomFor 0 scanning (z.released + flag z.finished)) (sym same) h.ended;
    served = subst (λ (z : ThreadModel). HasRoomFor 0 scanning z.served) (sym same) h.served;
    trapped = subst (λ (z : ThreadModel). HasRoomFor 0 scanning z.trapped) (sym same) h.trapped;
    expired = subst (λ (z : ThreadModel). HasRoomFor 0 scanning z.expired) (sym same) h.expired;
  }

  pub lasts : Lasts 0 end
  lasts =
      let f = follows job r left in
      let old = left.ends.lasts in
      record {
        commits = subst (λ (z : ℕ × Option ScanModel). HasRoomFor 0 (is_scanning (record m { scan = z.1 })) z.0) (λ j. (sym f.commits j, sym f.scan j)) old.commits;
        threads = λ t.
            subst (λ (o : Option ScanModel). LastsThread 0 (is_scanning (record m { scan = o })) (thread_of end t)) (sym f.scan)
            (thread_lasts (is_scanning m) (thread_of m t) (thread_of end t) (f.threads t) (old.threads t));
        taken = λ q.
            subst (λ (z : Option ScanModel × List PipeModel). HasRoomFor 0 (is_scanning (record m { scan = z.0 })) (get_or z.1 q no_pipe).taken) (λ j. (sym f.scan j, sym f.pipes j)) (old.taken q);
      }
