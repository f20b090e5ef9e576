-- An event that joins or leaves a queue keeps a state sound.
use Rattle.never_cut.proofs.Common.{◌≡◌, ◌≢◌, ℕ, suc, ◌+◌, ◌<◌, ◌≤◌, true, false, List, [], ◌∷◌, ◌++◌, length, drop, get_or, Some, None, refl, sym, ap, ◌∙◌, arith, subst, inl, inr, length-append, length-drop, length-set, ForSome, cases_eq, Event, Origin, SourceId, ThreadId, Push, Release, Program, IsAccepted, source_thread, Model, ThreadModel, SourceModel, thread_of, source_of, no_thread, with_thread, with_source, outputs_of, Readings, readings_of, Legal, effect, IsCalm, next_event, pushed, released, with_accepted, event_at, IsQueued, unsettled_into, sources_in, AreShort, unsettled_least, unsettled_one}
use Rattle.ink_base.specs.declared.event.Origin.TheVariants as origins
use Rattle.never_cut.proofs.Threads.{thread_of-with_same, thread_of-with_other}
use Rattle.never_cut.proofs.SoundThreads.{settled_at}
use Rattle.never_cut.proofs.SoundParts.{IsSoundAt, IsServedBy, ThreadSound, HasSoundParts, taken_in}
use Rattle.never_cut.proofs.SoundSources.{next_of, source_same, settles_more, sources_with, source_made, sources_same}

-- a state in which one thread and the sources have changed
pub thread_changes : (program : Program) (m next : Model) (t : ℕ) (x : ThreadModel) → t < length m.threads → next.threads ≡ (with_thread m t x).threads →
    (thread_of next t ≡ x) × ((u : ℕ) → u ≢ t → thread_of next u ≡ thread_of m u)
thread_changes program m next t x lt is = (
  ap (λ (l : List ThreadModel). get_or l t no_thread) is ∙ thread_of-with_same m t x lt,
  λ u ne. ap (λ (l : List ThreadModel). get_or l u no_thread) is ∙ thread_of-with_other m t u x ne,
)

begun_with : (m next : Model) (t : ℕ) (x : ThreadModel) → (thread_of next t ≡ x) × ((u : ℕ) → u ≢ t → thread_of next u ≡ thread_of m u) →
    x.first ≡ (thread_of m t).first → next.scan ≡ m.scan → ForSome m.scan (λ scan. (u : ℕ) → (thread_of m u).first ≤ scan.time) →
    ForSome next.scan (λ scan. (u : ℕ) → (thread_of next u).first ≤ scan.time)
begun_with m next t x changes first same h scan is u =
    let old : (thread_of m u).first ≤ scan.time = h scan (sym same ∙ is) u in
    let kept : (thread_of next u).first ≡ (thread_of m u).first =
    elim (cases_eq u t) [
      | inl e ↦ ap (λ v. (thread_of next v).first) e ∙ ap (λ (z : ThreadModel). z.first) changes.0 ∙ first ∙ ap (λ v. (thread_of m v).first) (sym e)
      | inr apart ↦ ap (λ (z : ThreadModel). z.first) (changes.1 u apart)
    ] in
    omega arith

calm_with : (program : Program) (m next : Model) (t : ℕ) (x : ThreadModel) → (thread_of next t ≡ x) × ((u : ℕ) → u ≢ t → thread_of next u ≡ thread_of m u) →
    x.finished ≡ (thread_of m t).finished → next.scan ≡ m.scan → ForSome m.scan (λ scan. IsCalm program m) → ForSome next.scan (λ scan. IsCalm program next)
calm_with program m next t x changes finished same h scan is u lt =
    let old : (thread_of m u).finished ≡ false = h scan (sym same ∙ is) u lt in
    elim (cases_eq u t) [
      | inl e ↦ ap (λ v. (thread_of next v).finished) e ∙ ap (λ (z : ThreadModel). z.finished) changes.0 ∙ finished ∙ ap (λ v. (thread_of m v).finished) (sym e) ∙ old
      | inr apart ↦ ap (λ (z : ThreadModel). z.finished) (changes.1 u apart) ∙ old
    ]

-- the events of a queue with one more
queued_more : (program : Program) (t : ℕ) (held : List Event) (e : Event) → ((k : ℕ) → k < length held → IsQueued program t (event_at held k)) → IsQueued program t e →
    (k : ℕ) → k < length (held ++ e ∷ []) → IsQueued program t (event_at (held ++ e ∷ []) k)
queued_more program t [] e h new k lt = let first : k ≡ 0 = omega arith in subst (λ j. IsQueued program t (event_at (e ∷ []) j)) (sym first) new
queued_more program t (x ∷ held) e h new Rattle.std.proofs.Common.zero lt = h 0 (omega arith)
queued_more program t (x ∷ held) e h new (suc k) lt = queued_more program t held e (λ j less. h (suc j) (omega arith)) new k (omega arith)

-- a chain serves its event also where the queue has got one more
served_more : (program : Program) (taken : ℕ → ℕ) (t : ℕ) (held : List Event) (new : Event) (o : Origin) (value : ℕ) →
    IsServedBy program taken t held (record { origin = o; value = value }) → IsServedBy program taken t (held ++ new ∷ []) (record { origin = o; value = value })
served_more program taken t [] new (origins.Source source count) value served = let none = served.0 in absurd (omega arith)
served_more program taken t (x ∷ held) new (origins.Source source count) value served = (omega arith, served.1)
served_more program taken t held new (origins.Pipe pipe item) value served = served
served_more program taken t held new (origins.Timer timer deadline) value served = served

pushed_at : (program : Program) (taken : ℕ → ℕ) (t : ℕ) (x : ThreadModel) (e : Event) (left fewer outs clock : ℕ) → fewer + 1 ≤ left → IsSoundAt program taken t x left outs clock →
    IsQueued program t e → IsSoundAt program taken t (pushed e x) fewer outs clock
pushed_at program taken t x e left fewer outs clock less h new = record {
  positions = let old = h.positions in omega (arith, length-append x.held (e ∷ []), old);
  queued = queued_more program t x.held e h.queued new;
  finished = λ is. (omega (arith, length-append x.held (e ∷ [])), (h.finished is).1);
  idle = h.idle;
  chain = λ task is.
      let c = h.chain task is in
      record {
        known = c.known;
        own = c.own;
        event = c.event;
        is = c.is;
        served = served_more program taken t x.held e c.event.origin c.event.value c.served;
        unfinished = c.unfinished;
      };
  outputs = h.outputs;
  first = h.first;
  size = h.size;
  values = h.values;
}

-- the state after the push of an event from source i into the queue of thread t
abbrev pub push_state : Model → (i t : ℕ) → Event → Model
push_state m i t e = with_source (with_thread m t (pushed e (thread_of m t))) i (with_accepted (source_of m i))

push_next : (m : Model) (i t : ℕ) (e : Event) → i < length m.sources → (next_of (push_state m i t e) i ≡ next_of m i + 1) × ((j : ℕ) → next_of m j ≤ next_of (push_state m i t e) j)
push_next m i t e lt = (
  ap (λ (z : SourceModel). z.next) (source_same (with_thread m t (pushed e (thread_of m t))) i (with_accepted (source_of m i)) lt),
  settles_more (with_thread m t (pushed e (thread_of m t))) i (with_accepted (source_of m i)) lt (omega arith),
)

push_thread : (program : Program) (readings : Readings) (m : Model) (i t u : ℕ) (e : Event) → source_thread program i ≡ t → i < length program.sources → t < length program.threads →
    (source_of m i).next < length (readings_of readings i) → IsQueued program t e → HasSoundParts program readings m → u < length program.threads → ThreadSound program readings (push_state m i t e) u
push_thread program readings m i t u e of known there left queued h lt =
    let next : Model = push_state m i t e in
    let settles = push_next m i t e (rw h.sources_count known) in
    let changes = thread_changes program m (push_state m i t e) t (pushed e (thread_of m t)) (rw h.threads_count there) refl in
    elim (cases_eq u t) [
      | inl same ↦ subst (λ v. ThreadSound program readings (push_state m i t e) v) (sym same)
          (subst (λ (z : ThreadModel). IsSoundAt program (taken_in m.pipes) t z (unsettled_into program readings next t (length program.sources)) (length (outputs_of m t)) m.clock) (sym changes.0)
          (pushed_at program (taken_in m.pipes) t (thread_of m t) e _ _ _ _ (unsettled_one (source_thread program) (readings_of readings) (sources_in m) (sources_in next) t (length program.sources) i known of settles.0 left settles.1) (h.threads t there) queued))
      | inr apart ↦ subst (λ (z : ThreadModel). IsSoundAt program (taken_in m.pipes) u z (unsettled_into program readings next u (length program.sources)) (length (outputs_of m u)) m.clock) (sym (changes.1 u apart))
          (settled_at program (taken_in m.pipes) u (thread_of m u) _ _ _ _ (unsettled_least (source_thread program) (readings_of readings) (sources_in m) (sources_in next) u (length program.sources) settles.1) (h.threads u lt))
    ]

push_with : (program : Program) (readings : Readings) (m : Model) (i t : ℕ) (e : Event) → source_thread program i ≡ t → i < length program.sources → t < length program.threads →
    (source_of m i).next < length (readings_of readings i) → IsQueued program t e → HasSoundParts program readings m → HasSoundParts program readings (push_state m i t e)
push_with program readings m i t e of known there left queued h =
    let x : ThreadModel = pushed e (thread_of m t) in
    let before : Model = with_thread m t x in
    let lt : i < length m.sources = rw h.sources_count known in
    let changes = thread_changes program m (push_state m i t e) t (pushed e (thread_of m t)) (rw h.threads_count there) refl in
    let ordered = (h.sources i known).ordered in
    record {
      threads_count = length-set m.threads t (pushed e (thread_of m t)) ∙ h.threads_count;
      pipes_count = h.pipes_count;
      timers_count = h.timers_count;
      sources_count = length-set m.sources i (with_accepted (source_of m i)) ∙ h.sources_count;
      threads = λ u less. push_thread program readings m i t u e of known there left queued h less;
      pipes = h.pipes;
      timers = h.timers;
      sources = sources_with readings (with_thread m t (pushed e (thread_of m t))) i (length program.sources) (with_accepted (source_of m i)) lt
          (sources_same readings m (with_thread m t (pushed e (thread_of m t))) (length program.sources) refl h.sources)
          (source_made readings (with_thread m t (pushed e (thread_of m t))) i (with_accepted (source_of m i)) lt (omega (arith, ordered)) (omega (arith, left)) (λ is. absurd (let clash : false ≡ true = is in cc)));
      clock = h.clock;
      scan = h.scan;
      begun = begun_with m (push_state m i t e) t (pushed e (thread_of m t)) changes refl refl h.begun;
      calm = calm_with program m (push_state m i t e) t (pushed e (thread_of m t)) changes refl refl h.calm;
      stamps = h.stamps;
      words = h.words;
    }

pub push_sound : (program : Program) (readings : Readings) (m : Model) (i : SourceId) → IsAccepted program → AreShort readings → HasSoundParts program readings m →
    Legal program readings m (Push i) → HasSoundParts program readings (effect program readings m (Push i))
push_sound program readings m i accepted short h legal =
    push_with program readings m i.0 (source_thread program i.0) (next_event readings m i.0) refl legal.0 (accepted.sources i.0 legal.0) legal.1
    (legal.0, refl, omega arith, short.values i.0 (source_of m i.0).next) h

-- the events of a queue without its first
queued_less : (program : Program) (t : ℕ) (held : List Event) → ((k : ℕ) → k < length held → IsQueued program t (event_at held k)) →
    (k : ℕ) → k < length (drop 1 held) → IsQueued program t (event_at (drop 1 held) k)
queued_less program t [] h k lt = absurd (omega (arith, length-drop {A = Event} 1 []))
queued_less program t (x ∷ held) h k lt = h (suc k) (omega arith)

-- the event of a thread that has finished one: no chain of it runs
released_at : (program : Program) (taken : ℕ → ℕ) (t : ℕ) (x : ThreadModel) (left outs clock : ℕ) → IsSoundAt program taken t x left outs clock → x.finished ≡ true →
    IsSoundAt program taken t (released x) left outs clock
released_at program taken t x left outs clock h is = record {
  positions = let some = (h.finished is).0 in let old = h.positions in omega (arith, length-drop 1 x.held, some, old);
  queued = queued_less program t x.held h.queued;
  finished = λ e. absurd (let clash : false ≡ true = e in cc);
  idle = h.idle;
  chain = λ task runs. absurd (let clash : None ≡ Some task = sym (h.finished is).1 ∙ runs in cc);
  outputs = h.outputs;
  first = h.first;
  size = h.size;
  values = h.values;
}

pub release_sound : (program : Program) (readings : Readings) (m : Model) (t : ThreadId) → HasSoundParts program readings m → Legal program readings m (Release t) →
    HasSoundParts program readings (effect program readings m (Release t))
release_sound program readings m t h legal =
    let next : Model = with_thread m t.0 (released (thread_of m t.0)) in
    let changes = thread_changes program m (with_thread m t.0 (released (thread_of m t.0))) t.0 (released (thread_of m t.0)) (rw h.threads_count legal.0) refl in
    record {
      threads_count = length-set m.threads t.0 (released (thread_of m t.0)) ∙ h.threads_count;
      pipes_count = h.pipes_count;
      timers_count = h.timers_count;
      sources_count = h.sources_count;
      threads = λ u lt. elim (cases_eq u t.0) [
        | inl same ↦ subst (λ v. ThreadSound program readings next v) (sym same)
            (subst (λ z. IsSoundAt program (taken_in m.pipes) t.0 z (unsettled_into program readings next t.0 (length program.sources)) (length (outputs_of m t.0)) m.clock) (sym changes.0)
            (released_at program (taken_in m.pipes) t.0 (thread_of m t.0) _ _ _
            (settled_at program (taken_in m.pipes) t.0 (thread_of m t.0) _ _ _ _ (unsettled_least (source_thread program) (readings_of readings) (sources_in m) (sources_in next) t.0 (length program.sources) (λ j. omega arith)) (h.threads t.0 legal.0)) legal.1))
        | inr apart ↦ subst (λ z. IsSoundAt program (taken_in m.pipes) u z (unsettled_into program readings next u (length program.sources)) (length (outputs_of m u)) m.clock) (sym (changes.1 u apart))
            (settled_at program (taken_in m.pipes) u (thread_of m u) _ _ _ _ (unsettled_least (source_thread program) (readings_of readings) (sources_in m) (sources_in next) u (length program.sources) (λ j. omega arith)) (h.threads u lt))
      ];
      pipes = h.pipes;
      timers = h.timers;
      sources = sources_same readings m (with_thread m t.0 (released (thread_of m t.0))) (length program.sources) refl h.sources;
      clock = h.clock;
      scan = h.scan;
      begun = begun_with m (with_thread m t.0 (released (thread_of m t.0))) t.0 (released (thread_of m t.0)) changes refl refl h.begun;
      calm = λ scan is. absurd (let clash : true ≡ false = sym legal.1 ∙ h.calm scan is t.0 legal.0 in cc);
      stamps = h.stamps;
      words = h.words;
    }
