-- The words with which a job's run begins stand for the state at which it begins.
use Rattle.kernel_core.proofs.Common.{◌≡◌, inl, inr, ℕ, ◌^◌, ◌<◌, ◌≤◌, List, length, Option, Some, None, refl, sym, ap, subst, arith, cases_lt, get_or_past, ThreadId, ThreadDef, Slot, Tail, Ack, Clock, Src, memory_of, Program, IsAccepted, thread_def, no_thread_def, source_thread, words_of, Queue, open_queue, queue_of, source_in, thread_of, no_thread, no_source, Readings, AreShort, open_starts, first_model, AreFirstWords, Setup, shape, StandsFirst}
use Rattle.std.specs.Option.{ForSome}
use Rattle.ink_base.specs.declared.limits.TheConstants as limits
use Rattle.prog_check.specs.Lookup as lookup
use Rattle.push_core.specs.Queue.{Source, published, open_source, StandsQueue, KeepsNumbers}
use Rattle.push_core.proofs.Unsettled.{unsettled_bound}
use Rattle.source_laws.specs.Stands.{EventsKept}
use Rattle.never_cut.specs.Sound.{sources_in}
use Rattle.never_cut.specs.Start.{CanStart}
use Rattle.never_cut.specs.Worn.{LateClock}
use Rattle.never_cut.specs.Images.{IsStanding}
use Rattle.never_cut.proofs.ImagesStand.{every_image}
use Rattle.job_parts.specs.Job as jobs
use Rattle.job_parts.specs.declared.start.Start.{Start}
use Rattle.kernel_core.specs.Board.{sides}
use Rattle.kernel_core.specs.Views.{sides_of}
use Rattle.kernel_core.proofs.Firsts.{first_stands, past_tail, past_ack, past_src}

module _ (s : Setup) (words : List ℕ) (accepted : IsAccepted s.program) (short : AreShort s.readings) (h : IsStanding s.program s.readings (memory_of (shape s) words) s.first) where
  -- past the last thread and the last source there is nothing
  past_queue : (t : ℕ) → length s.program.threads ≤ t → queue_of (thread_of s.first t) ≡ open_queue
  past_queue t past = ap queue_of (get_or_past s.first.threads t no_thread (let same = h.start.sound.shape.threads in omega arith))

  past_source : (i : ℕ) → length s.program.sources ≤ i → sources_in s.first i ≡ open_source
  past_source i past = ap source_in (get_or_past s.first.sources i no_source (let same = h.start.sound.shape.sources in omega arith))

  past_stands : (t : ℕ) → length s.program.threads ≤ t →
      StandsQueue (thread_def s.program t).queue (λ n. memory_of (shape s) words (Slot t n)) (memory_of (shape s) words (Tail t)) (queue_of (thread_of s.first t))
  past_stands t past =
      let none : (thread_def s.program t).queue ≡ 0 = ap (λ (d : ThreadDef). d.queue) (get_or_past s.program.threads t no_thread_def past) in
      subst (λ (q : Queue). StandsQueue (thread_def s.program t).queue (λ n. memory_of (shape s) words (Slot t n)) (memory_of (shape s) words (Tail t)) q) (sym (past_queue t past))
      (record {
        room = omega arith;
        full_slots = λ k lt. absurd (omega arith);
        empty_slots = λ n above below. absurd (omega arith);
        tail_near = inl (omega (arith, past_tail s.program words t past));
      })

  past_events : (t : ℕ) → length s.program.threads ≤ t → EventsKept (sides s) (sides_of s.first).queue (sides_of s.first).source t
  past_events t past = record {
    events = λ k lt. absurd (let none = ap (λ (q : Queue). length q.held) (past_queue t past) in omega arith);
    positions = omega (arith, ap published (past_queue t past), unsettled_bound (sides s).queue_of (sides s).readings (sources_in s.first) t (length s.program.sources) limits.READINGS short.few, accepted.counts.sources);
  }

  past_numbers : (i : ℕ) → length s.program.sources ≤ i →
      KeepsNumbers i (memory_of (shape s) words (Src i)) (memory_of (shape s) words (Ack i)) (queue_of (thread_of s.first (source_thread s.program i))) (sources_in s.first i)
  past_numbers i past =
      let nobody : source_thread s.program i ≡ 255 = ap (λ (t : ThreadId). t.0) (get_or_past s.program.sources i lookup.no_thread past) in
      let few = accepted.counts.threads in
      subst (λ (z : ℕ × ℕ × Queue × Source). KeepsNumbers i z.0 z.1 z.2 z.3)
      (λ k. (sym (past_src s.program words i past) k, sym (past_ack s.program words i past) k, sym (past_queue (source_thread s.program i) (omega arith)) k, sym (past_source i past) k))
      (record { gone = 0; numbered = refl; ack_is = inl (omega arith); stored = (0, 0, omega arith, inl (refl, refl)) })

  -- words that stand for a state are those with which a run begins there
  standing_first : length words ≡ words_of (shape s) → StandsFirst s words
  standing_first count = record {
    count = count;
    private = h.stands.private;
    clock = h.stands.shared.clock;
    sources = record {
      queues = λ t. elim (cases_lt t (length s.program.threads)) [ inl lt ↦ h.stands.shared.queues t lt | inr past ↦ past_stands t past ];
      events = λ t. elim (cases_lt t (length s.program.threads)) [
        | inl lt ↦ record { events = (h.start.sound.threads t lt).queued; positions = (h.start.sound.threads t lt).positions }
        | inr past ↦ past_events t past
      ];
      stands = λ i. elim (cases_lt i (length s.program.sources)) [ inl lt ↦ h.numbers i lt | inr past ↦ past_numbers i past ];
      ordered = λ i. elim (cases_lt i (length s.program.sources)) [
        | inl lt ↦ record { accepted = (h.start.sound.sources i lt).ordered; next = (h.start.sound.sources i lt).within }
        | inr past ↦ let none = past_source i past in record { accepted = omega (arith, ap (λ (z : Source). z.accepted) none); next = omega (arith, ap (λ (z : Source). z.next) none) }
      ];
      rows = λ i. refl;
    };
  }

module _ (program : Program) (readings : Readings) where
  -- a start's words stand for its state
  start_stands : (start : Start) → IsAccepted program → jobs.IsStart program readings start → IsStanding program readings (jobs.words_in program start) start.model
  start_stands start accepted is = every_image program readings is.listed (jobs.words_in program start) start.model accepted is.image is.fresh is.read is.are_listed

  -- a run can begin at the state of a start, and at the first image's
  pub can_begin : (start : Option Start) → IsAccepted program → AreShort readings → ForSome start (jobs.IsStart program readings) → CanStart program readings (first_model program start)
  can_begin None accepted short is = open_starts program readings accepted short.few
  can_begin (Some start) accepted short is = (start_stands start accepted (is start refl)).start

  -- and the first words stand for it
  pub words_stand : (start : Option Start) (words : List ℕ) → IsAccepted program → AreShort readings → ForSome start (jobs.IsStart program readings) → AreFirstWords program start words →
      StandsFirst (record { program = program; readings = readings; first = first_model program start }) words
  words_stand None words accepted short is image = first_stands (record { program = program; readings = readings; first = first_model program None }) words accepted short refl image
  words_stand (Some start) words accepted short is same =
      let setup : Setup = record { program = program; readings = readings; first = start.model } in
      subst (λ (l : List ℕ). StandsFirst setup l) (sym same) (standing_first setup start.words accepted short (start_stands start accepted (is start refl)) (is start refl).count)

  -- the clock begins with half its range before it
  pub clock_half : (start : Option Start) → ForSome start (jobs.IsStart program readings) → (first_model program start).clock < 2 ^ 46
  clock_half None is = omega arith
  clock_half (Some start) is =
      let there = is start refl in
      elim (cases_lt (jobs.words_in program start Clock) (2 ^ 46)) [ inl lt ↦ let same = there.read.clock in omega arith | inr late ↦ absurd (there.fresh (LateClock late)) ]
