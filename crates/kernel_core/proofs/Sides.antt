-- The run as the sources see it, and what their side keeps tells of the queues.
use Rattle.kernel_core.proofs.Common.{◌≡◌, inl, inr, ℕ, ◌<◌, List, length, get_or, set, ap, arith, get_or-set_same, get_or-set_other, cases_lt, get_or_past, Memory, Clock, Becomes, ThreadDef, IsAccepted, thread_def, no_thread_def, source_thread, Row, IsWithin, Kept, Model, ThreadModel, SourceModel, queue_of, source_in, no_thread, no_source, IsSound, StandsForKernel, AreShort, published_bound, Setup, sides, seen, IsSetup}

-- a run within its limits is one within those of the sources
pub within_limits : (s : Setup) → IsAccepted s.program → AreShort s.readings → IsWithin (sides s)
within_limits s accepted short = record {
  sources = accepted.counts.sources;
  readings = short.few;
  values = short.values;
  places = λ i lt. let t = source_thread s.program i in
      let some = (accepted.threads (source_thread s.program i) (accepted.sources i lt)).queue_least in
      omega arith;
  no_more = λ t. elim (cases_lt t (length s.program.threads)) [
    | inl lt ↦ (accepted.threads t lt).queue
    | inr past ↦
        let none : (thread_def s.program t).queue ≡ 0 = ap (λ (d : ThreadDef). d.queue) (get_or_past s.program.threads t no_thread_def past) in
        omega arith
  ];
}

pub within : (s : Setup) → IsSetup s → IsWithin (sides s)
within s g = within_limits s g.accepted g.short

-- one element of a list changes
pub Becomes-set : {A : Type 0} (xs : List A) (i : ℕ) (x d : A) → i < length xs → Becomes i x (λ j. get_or xs j d) (λ j. get_or (set xs i x) j d)
Becomes-set xs i x d lt = record { here = get_or-set_same xs i x d lt; elsewhere = λ j apart. get_or-set_other xs i j x d apart }

-- one thread changes, so one queue does
pub Becomes-queue : (m : Model) (t : ℕ) (x : ThreadModel) → t < length m.threads →
    Becomes t (queue_of x) (λ j. queue_of (get_or m.threads j no_thread)) (λ j. queue_of (get_or (set m.threads t x) j no_thread))
Becomes-queue m t x lt =
    let b = Becomes-set m.threads t x no_thread lt in record { here = ap queue_of b.here; elsewhere = λ j other. ap queue_of (b.elsewhere j other) }

pub Becomes-source : (m : Model) (i : ℕ) (x : SourceModel) → i < length m.sources →
    Becomes i (source_in x) (λ j. source_in (get_or m.sources j no_source)) (λ j. source_in (get_or (set m.sources i x) j no_source))
Becomes-source m i x lt =
    let b = Becomes-set m.sources i x no_source lt in record { here = ap source_in b.here; elsewhere = λ j other. ap source_in (b.elsewhere j other) }

-- what the sources' side keeps says what the kernel reads
pub shared_of : (s : Setup) (words : Memory) (m : Model) (rows : ℕ → Row) → IsSetup s → IsSound s.program s.readings m → Kept (sides s) (seen words m rows) → words Clock ≡ m.clock →
    StandsForKernel words s.program m
shared_of s words m rows g sound h clock = record {
  queues = λ t lt. h.queues t;
  small = λ t lt. let b = published_bound s.program s.readings m t sound lt in omega arith;
  clock = clock;
}
