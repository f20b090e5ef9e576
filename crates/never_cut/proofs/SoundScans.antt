-- A tick of the clock, the begin of a scan and its look at a queue keep a state sound.
use Rattle.never_cut.proofs.Common.{◌≡◌, ℕ, ◌≤◌, [], length, Option, Some, None, refl, ap, arith, inl, inr, ForSome, cases_lt, get_or_past, ThreadId, Tick, Scan, Look, Program, Model, ThreadModel, ScanModel, thread_of, no_thread, Readings, Legal, effect, IsCalm, looked, readings_of, unsettled_least, source_thread, sources_in}
use Rattle.never_cut.proofs.SoundParts.{HasSoundParts, taken_in}
use Rattle.never_cut.proofs.SoundSources.{sources_same}
use Rattle.never_cut.proofs.SoundThreads.{settled_at}

pub tick_sound : (program : Program) (readings : Readings) (m : Model) (by : ℕ) → HasSoundParts program readings m → Legal program readings m (Tick by) →
    HasSoundParts program readings (effect program readings m (Tick by))
tick_sound program readings m by h early =
    record {
      threads_count = h.threads_count;
      pipes_count = h.pipes_count;
      timers_count = h.timers_count;
      sources_count = h.sources_count;
      threads = λ t lt. let x = h.threads t lt in record {
        positions = omega (arith, x.positions, unsettled_least (source_thread program) (readings_of readings) (sources_in m) (sources_in (effect program readings m (Tick by))) t (length program.sources) (λ j. omega arith));
        queued = x.queued;
        finished = x.finished;
        idle = x.idle;
        chain = x.chain;
        outputs = x.outputs;
        first = omega (arith, x.first);
        size = x.size;
        values = x.values;
      };
      pipes = h.pipes;
      timers = h.timers;
      sources = sources_same readings m (effect program readings m (Tick by)) (length program.sources) refl h.sources;
      clock = early;
      scan = λ scan is. omega (arith, h.scan scan is);
      begun = h.begun;
      calm = h.calm;
      stamps = h.stamps;
      words = h.words;
    }

-- a scan of a sound state: it isn't ahead of the clock, no chain began behind it, and nothing is finished
abbrev IsSoundScan : Program → Model → ScanModel → Type 0
IsSoundScan program m scan = (scan.time ≤ m.clock) × ((t : ℕ) → (thread_of m t).first ≤ scan.time) × IsCalm program m

-- the state with another scan
with_scan_sound : (program : Program) (readings : Readings) (m : Model) (o : Option ScanModel) → HasSoundParts program readings m →
    ForSome o (λ scan. IsSoundScan program m scan) → HasSoundParts program readings (record m { scan = o })
with_scan_sound program readings m o h right =
    record {
      threads_count = h.threads_count;
      pipes_count = h.pipes_count;
      timers_count = h.timers_count;
      sources_count = h.sources_count;
      threads = λ t lt. settled_at program (taken_in m.pipes) t (thread_of m t) _ _ _ _ (unsettled_least (source_thread program) (readings_of readings) (sources_in m) (sources_in (record m { scan = o })) t (length program.sources) (λ j. omega arith)) (h.threads t lt);
      pipes = h.pipes;
      timers = h.timers;
      sources = sources_same readings m (record m { scan = o }) (length program.sources) refl h.sources;
      clock = h.clock;
      scan = λ scan is. (right scan is).0;
      begun = λ scan is. (right scan is).1;
      calm = λ scan is. (right scan is).2;
      stamps = h.stamps;
      words = h.words;
    }

-- no chain began behind the clock
first_early : (program : Program) (readings : Readings) (m : Model) (t : ℕ) → HasSoundParts program readings m → (thread_of m t).first ≤ m.clock
first_early program readings m t h =
    elim (cases_lt t (length program.threads)) [
      | inl known ↦ (h.threads t known).first
      | inr past ↦
          let gone : thread_of m t ≡ no_thread = get_or_past m.threads t no_thread (rw h.threads_count past) in
          let none : (thread_of m t).first ≡ 0 = ap (λ (x : ThreadModel). x.first) gone in
          omega arith
    ]

pub scan_sound : (program : Program) (readings : Readings) (m : Model) → HasSoundParts program readings m → Legal program readings m Scan → HasSoundParts program readings (effect program readings m Scan)
scan_sound program readings m h calm =
    with_scan_sound program readings m (Some (record { time = m.clock; looked = [] })) h
    (λ scan is. let same : m.clock ≡ scan.time = ap (λ (o : Option ScanModel). elim o [ None ↦ 0 | Some z ↦ z.time ]) is in
    (omega arith, λ t. let early = first_early program readings m t h in omega arith, calm))

pub look_sound : (program : Program) (readings : Readings) (m : Model) (t : ThreadId) → HasSoundParts program readings m → HasSoundParts program readings (effect program readings m (Look t))
look_sound program readings m t h = by_scan m.scan refl
  where
    by_scan : (o : Option ScanModel) → m.scan ≡ o → HasSoundParts program readings (record m { scan = elim o [ None ↦ None | Some scan ↦ Some (looked t scan) ] })
    by_scan None is = with_scan_sound program readings m None h (λ scan e. absurd (let clash : None ≡ Some scan = e in cc))
    by_scan (Some old) is = with_scan_sound program readings m (Some (looked t old)) h
        (λ scan e. let same : old.time ≡ scan.time = ap (λ (o : Option ScanModel). elim o [ None ↦ 0 | Some z ↦ z.time ]) e in
        (omega (arith, h.scan old is), λ u. let early = h.begun old is u in omega arith, h.calm old is))
