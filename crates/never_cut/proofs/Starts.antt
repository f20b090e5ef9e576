-- A state at which a run can begin has room for an entry, and keeps it; the state of the first image is one.
use Rattle.never_cut.proofs.Common.{◌≡◌, ℕ, suc, ◌+◌, ◌-◌, ◌^◌, ◌<◌, ◌≤◌, Bool, true, false, List, [], ◌∷◌, length, Some, None, refl, sym, subst, arith, inl, inr, All, ForSome, cases_lt, get_or_past, All-nil, All-cons, Event, Origin, Entry, Push, Refuse, Skip, Tick, Scan, Look, Commit, Release, Program, IsAccepted, source_thread, Model, ThreadModel, thread_of, source_of, no_thread, no_source, open_model, with_thread, is_of_queue, Readings, readings_of, Legal, effect, fed_by, next_event, pushed, with_accepted, with_refused, with_skipped, after, IsLegal, IsSound, IsSoundSource, IsQueued, CanStart, EveryStateStarts, event_at, AreReadings, HasRoom, IsWithinThread, IsWithinSource, Lasts, LastsThread, is_scanning}
use Rattle.ink_base.specs.declared.limits.TheConstants as limits
use Rattle.ink_base.specs.declared.event.Origin.TheVariants as origins
use Rattle.never_cut.proofs.Commits.{commit-sources}
use Rattle.never_cut.proofs.Lasting.{lasts_step, open_lasts}
use Rattle.never_cut.proofs.SoundSources.{sources_with, source_made, sources_same}
use Rattle.never_cut.proofs.SoundStates.{open_sound, sound_after}
use Rattle.never_cut.proofs.Steps.{stays_within}

-- the sources of a state
abbrev pub SourcesSound : Program → Readings → Model → Type 0
SourcesSound program readings m = (i : ℕ) → i < length program.sources → IsSoundSource readings m i

-- an entry keeps the sources in order
sources_step : (program : Program) (readings : Readings) (m : Model) (e : Entry) → length m.sources ≡ length program.sources → SourcesSound program readings m →
    Legal program readings m e → SourcesSound program readings (effect program readings m e)
sources_step program readings m (Push i) count h legal =
    let known : i.0 < length m.sources = rw count legal.0 in
    let fed : Model = with_thread m (source_thread program i.0) (pushed (next_event readings m i.0) (fed_by program m i.0)) in
    let left = legal.1 in
    sources_with readings fed i.0 (length program.sources) (with_accepted (source_of m i.0)) known (sources_same readings m fed (length program.sources) refl h)
    (source_made readings fed i.0 (with_accepted (source_of m i.0)) known (omega (arith, (h i.0 legal.0).ordered)) (omega (arith, left)) (λ is. absurd (let clash : false ≡ true = is in cc)))
sources_step program readings m (Refuse i) count h legal =
    let known : i.0 < length m.sources = rw count legal.0 in
    let s = h i.0 legal.0 in
    sources_with readings m i.0 (length program.sources) (with_refused (source_of m i.0)) known h
    (source_made readings m i.0 (with_refused (source_of m i.0)) known s.ordered s.within (λ _. legal.1))
sources_step program readings m (Skip i) count h legal =
    let known : i.0 < length m.sources = rw count legal.0 in
    let s = h i.0 legal.0 in
    let left = s.refused legal.1 in
    sources_with readings m i.0 (length program.sources) (with_skipped (source_of m i.0)) known h
    (source_made readings m i.0 (with_skipped (source_of m i.0)) known (omega (arith, s.ordered)) (omega arith) (λ e. absurd (let clash : false ≡ true = e in cc)))
sources_step program readings m (Tick by) count h legal = sources_same readings m (effect program readings m (Tick by)) (length program.sources) refl h
sources_step program readings m Scan count h legal = sources_same readings m (effect program readings m Scan) (length program.sources) refl h
sources_step program readings m (Look t) count h legal = sources_same readings m (effect program readings m (Look t)) (length program.sources) refl h
sources_step program readings m (Commit t) count h legal = sources_same readings m (effect program readings m (Commit t)) (length program.sources) (commit-sources program t.0 m) h
sources_step program readings m (Release t) count h legal = sources_same readings m (effect program readings m (Release t)) (length program.sources) refl h

-- an event of a queue is one of a source
queued_is : (program : Program) (t value : ℕ) (o : Origin) → IsQueued program t (record { origin = o; value = value }) → is_of_queue (record { origin = o; value = value }) ≡ true
queued_is program t value (origins.Source source count) h = refl
queued_is program t value (origins.Pipe pipe item) h = absurd h
queued_is program t value (origins.Timer timer deadline) h = absurd h

-- and so is each of a list of them
all_queued : (program : Program) (t : ℕ) (held : List Event) → ((k : ℕ) → k < length held → IsQueued program t (event_at held k)) → All (λ e. is_of_queue e ≡ true) held
all_queued program t [] h = All-nil (λ e. is_of_queue e ≡ true)
all_queued program t (e ∷ held) h =
    All-cons (λ e. is_of_queue e ≡ true) e held (queued_is program t e.value e.origin (h 0 (omega arith))) (all_queued program t held (λ k lt. h (suc k) (omega arith)))

-- what sources may not pass
source_within : (program : Program) (readings : Readings) (m : Model) (i : ℕ) → length m.sources ≡ length program.sources → ((j : ℕ) → length (readings_of readings j) ≤ limits.READINGS) →
    SourcesSound program readings m → IsWithinSource (2 ^ 32 - 2) (source_of m i)
source_within program readings m i count few h =
    elim (cases_lt i (length program.sources)) [
      | inl known ↦ let s = h i known in let a = s.ordered in let b = s.within in let c = few i in record { next = omega arith; accepted = omega arith }
      | inr past ↦
          subst (IsWithinSource (2 ^ 32 - 2)) (sym (get_or_past m.sources i no_source (rw count past))) (record { next = omega arith; accepted = omega arith })
    ]

-- the counts of a thread are below 2^32 - 1
thread_within : (program : Program) (left : ℕ) (scanning : Bool) (x : ThreadModel) → LastsThread left scanning x → All (λ e. is_of_queue e ≡ true) x.held →
    ForSome x.running (λ task. task.0 < length program.tasks) → IsWithinThread program (2 ^ 32 - 2) x
thread_within program left scanning x h held running = record {
  released = let r = h.ended in omega arith;
  served = let r = h.served in omega arith;
  trapped = let r = h.trapped in omega arith;
  expired = let r = h.expired in omega arith;
  held = held;
  running = running;
}

-- a sound state whose counts have room has room for an entry
pub room_at : (program : Program) (readings : Readings) (left : ℕ) (m : Model) → ((j : ℕ) → length (readings_of readings j) ≤ limits.READINGS) → IsSound program readings m → Lasts left m → HasRoom program m
room_at program readings left m few sound lasts = record {
  parts = record { threads = sound.shape.threads; pipes = sound.shape.pipes; timers = sound.shape.timers; sources = sound.shape.sources };
  clock = sound.clock;
  scan = λ scan is. let early = sound.scan scan is in let clock = sound.clock in omega arith;
  commits = let r = lasts.commits in omega arith;
  threads = λ t. elim (cases_lt t (length program.threads)) [
    | inl known ↦
        let x = sound.threads t known in
        thread_within program left (is_scanning m) (thread_of m t) (lasts.threads t) (all_queued program t (thread_of m t).held x.queued) (λ task is. (x.chain task is).known)
    | inr past ↦
        let gone : thread_of m t ≡ no_thread = get_or_past m.threads t no_thread (rw sound.shape.threads past) in
        subst (IsWithinThread program (2 ^ 32 - 2)) (sym gone)
        (record {
          released = omega arith;
          served = omega arith;
          trapped = omega arith;
          expired = omega arith;
          held = All-nil (λ e. is_of_queue e ≡ true);
          running = λ task is. absurd (let clash : None ≡ Some task = is in cc);
        })
  ];
  pipes = λ q. let r = lasts.taken q in omega arith;
  sources = λ i. source_within program readings m i sound.shape.sources few sound.sources;
}

-- what a replay keeps from entry to entry: room for one, counts with room for so many, and the sources in order
pub record GoesOn (program : Program) (readings : Readings) (left : ℕ) (m : Model) : Type 0 where
  pub room : HasRoom program m
  pub lasts : Lasts left m
  pub sources : SourcesSound program readings m

-- a legal entry takes up the room of one, and keeps the rest
pub goes_on_step : (program : Program) (readings : Readings) (left : ℕ) (m : Model) (e : Entry) → IsAccepted program → ((j : ℕ) → length (readings_of readings j) ≤ limits.READINGS) →
    GoesOn program readings (left + 1) m → Legal program readings m e → GoesOn program readings left (effect program readings m e)
goes_on_step program readings left m e accepted few h legal =
    let next : Model = effect program readings m e in
    let w = stays_within program readings (2 ^ 32 - 2) m e accepted h.room legal in
    let lasts = lasts_step program readings left m e h.lasts legal in
    let sources = sources_step program readings m e h.room.parts.sources h.sources legal in
    record {
      room = record {
        parts = w.parts;
        clock = w.clock;
        scan = w.scan;
        commits = let r = lasts.commits in omega arith;
        threads = λ t. let x = w.threads t in thread_within program left (is_scanning next) (thread_of next t) (lasts.threads t) x.held x.running;
        pipes = λ q. let r = lasts.taken q in omega arith;
        sources = λ i. source_within program readings next i w.parts.sources few sources;
      };
      lasts = lasts;
      sources = sources;
    }

-- a legal journal takes up the room of its entries
pub goes_on_after : (program : Program) (readings : Readings) (left : ℕ) (m : Model) (journal : List Entry) → IsAccepted program → ((j : ℕ) → length (readings_of readings j) ≤ limits.READINGS) →
    GoesOn program readings (left + length journal) m → IsLegal program readings m journal → GoesOn program readings left (after program readings m journal)
goes_on_after program readings left m [] accepted few h legal = subst (λ n. GoesOn program readings n m) (let e : left + 0 ≡ left = omega arith in e) h
goes_on_after program readings left m (e ∷ journal) accepted few h legal =
    goes_on_after program readings left (effect program readings m e) journal accepted few
    (goes_on_step program readings (left + length journal) m e accepted few
    (subst (λ n. GoesOn program readings n m) (let more : left + suc (length journal) ≡ left + length journal + 1 = omega arith in more) h) legal.0) legal.1

-- a state at which a run can begin has all of it
pub starts : (program : Program) (readings : Readings) (first : Model) → ((j : ℕ) → length (readings_of readings j) ≤ limits.READINGS) → CanStart program readings first →
    GoesOn program readings (2 ^ 32 - 1) first
starts program readings first few h = record { room = room_at program readings (2 ^ 32 - 1) first few h.sound h.counts; lasts = h.counts; sources = h.sound.sources }

-- the state of the first image
pub open_starts : (program : Program) (readings : Readings) → IsAccepted program → ((j : ℕ) → length (readings_of readings j) ≤ limits.READINGS) → CanStart program readings (open_model program)
open_starts program readings accepted few = record {
  sound = open_sound program readings accepted few;
  counts = open_lasts program (2 ^ 32 - 1) (omega arith);
}

-- where the counts have room for a legal journal and one more replay, that can begin at the state after it
pub starts_after : EveryStateStarts
starts_after program readings first journal accepted short sound lasts legal = record {
  sound = sound_after program readings first journal accepted short sound legal;
  counts = (goes_on_after program readings (2 ^ 32 - 1) first journal accepted short.few
      (record { room = room_at program readings (2 ^ 32 - 1 + length journal) first short.few sound lasts; lasts = lasts; sources = sound.sources }) legal).lasts;
}

-- and after every legal journal from a state at which a run can begin, of no more entries than a number of 32 bits counts, there is room for one more
pub has_room_after : (program : Program) (readings : Readings) (first : Model) (journal : List Entry) → IsAccepted program → AreReadings program readings → CanStart program readings first →
    IsLegal program readings first journal → length journal < 2 ^ 32 → HasRoom program (after program readings first journal)
has_room_after program readings first journal accepted are start legal short =
    let left : 2 ^ 32 - 1 - length journal + length journal ≡ 2 ^ 32 - 1 = omega arith in
    (goes_on_after program readings (2 ^ 32 - 1 - length journal) first journal accepted are.few
    (subst (λ n. GoesOn program readings n first) (sym left) (starts program readings first are.few start)) legal).room
