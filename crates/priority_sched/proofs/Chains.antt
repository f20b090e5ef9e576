-- The accesses that find a running chain.
use Rattle.priority_sched.proofs.Common.{◌≡◌, ℕ, ◌+◌, ◌%◌, ◌^◌, ◌<◌, ◌≤◌, true, List, [], ◌∷◌, length, Option, Some, None, arith, refl, ap, ◌∙◌, sym, subst, ForSome, same_Some, ThreadId, TaskId, Event, Program, Memory, place_in, IsAccepted, thread_def, Model, thread_of, pipe_of, Readings, IsCalm, IsSound, IsChain, IsServed, IsQueued, Lasts, IsFirstHeld, Background, pending-running, Chain, Origin, Value, First, Picked, chain_pick, scan_at, after_value, KnowsChain, HasOrigin, ScanHolds, origin_of-origin_word, origin_of, HasOriginBits}
use Rattle.ink_base.specs.declared.limits.TheConstants as limits
use Rattle.ink_base.specs.declared.event.Origin as origin
use Rattle.ink_base.specs.declared.event.Origin.TheVariants as origins
use Rattle.fram_words.specs.Header as header
use Rattle.never_cut.specs.Commit.{is_of_queue}
use Rattle.push_core.specs.Queue.{event_at}
use Rattle.priority_sched.proofs.Words.{first_word, event_words}

-- the running chain of a sound state
pub sound_chain : (program : Program) (readings : Readings) (m : Model) (t : ℕ) (task : TaskId) → IsSound program readings m → t < length program.threads →
    (thread_of m t).running ≡ Some task → IsChain program m t task.0
sound_chain program readings m t task sound known runs = let x = sound.threads t known in x.chain task runs

-- the event of a running chain
pub event_served : (program : Program) (readings : Readings) (m : Model) (t : ℕ) (task : TaskId) (e : Event) → IsSound program readings m → t < length program.threads →
    (thread_of m t).running ≡ Some task → (thread_of m t).event ≡ Some e → IsServed program m t e
event_served program readings m t task e sound known runs is =
    let chain = sound_chain program readings m t task sound known runs in
    subst (IsServed program m t) (same_Some _ _ (sym chain.is ∙ is)) chain.served

-- a held event that is the first of the queue is of one of its sources
first_queued : (program : Program) (readings : Readings) (m : Model) (t : ℕ) (e : Event) → IsSound program readings m → t < length program.threads →
    0 < length (thread_of m t).held → event_at (thread_of m t).held 0 ≡ e → IsQueued program t e
first_queued program readings m t e sound known some is = let x = sound.threads t known in subst (IsQueued program t) is (x.queued 0 some)

-- the bits of its numbers and of its value
pub served_bits : (program : Program) (readings : Readings) (m : Model) (t : ℕ) (o : origin.Origin) (value : ℕ) → IsAccepted program → IsSound program readings m →
    Lasts 0 m → t < length program.threads → IsServed program m t (record { origin = o; value = value }) → HasOriginBits o × (value < 2 ^ 32)
served_bits program readings m t (origins.Source source count) value accepted sound few known h =
    let queued : IsQueued program t (record { origin = origins.Source source count; value = value }) = first_queued program readings m t _ sound known h.0 h.1 in
    let sources : length program.sources ≤ limits.SOURCES = accepted.counts.sources in
    let is : source.0 < length program.sources = queued.0 in
    let bits : count < 64 = queued.2 in
    (((let lt : source.0 < 2 ^ 8 = omega arith in lt), (let lt : count < 2 ^ 8 = omega arith in lt)), queued.3)
served_bits program readings m t (origins.Pipe pipe item) value accepted sound few known h =
    let pipes : length program.pipes ≤ limits.PIPES = accepted.counts.pipes in
    let is : pipe.0 < length program.pipes = h.0 in
    let taken : item + 1 ≡ (pipe_of m pipe.0).taken = h.2 in
    let low = few.taken pipe.0 in
    (((let lt : pipe.0 < 2 ^ 8 = omega arith in lt), (let lt : item < 2 ^ 32 = omega arith in lt)), h.3)
served_bits program readings m t (origins.Timer timer deadline) value accepted sound few known h =
    let timers : length program.timers ≤ limits.TIMERS = accepted.counts.timers in
    let is : timer.0 < length program.timers = h.0 in
    let low : value ≡ deadline % 2 ^ 32 = h.3 in
    (((let lt : timer.0 < 2 ^ 8 = omega arith in lt), h.2), (let lt : value < 2 ^ 32 = omega arith in lt))

-- a list whose first event is one
held_first : (held : List Event) (e : Event) → 0 < length held → event_at held 0 ≡ e → (rest : List Event) × (held ≡ e ∷ rest)
held_first [] e some is = absurd (omega arith)
held_first (x ∷ rest) e some is = (rest, ap (λ z. z ∷ rest) is)

-- a queue's event that a chain serves is the first of the queue
served_first : (program : Program) (m : Model) (t : ℕ) (o : origin.Origin) (value : ℕ) → IsServed program m t (record { origin = o; value = value }) →
    is_of_queue (record { origin = o; value = value }) ≡ true → IsFirstHeld m t (record { origin = o; value = value })
served_first program m t (origins.Source source count) value h is = held_first (thread_of m t).held _ h.0 h.1
served_first program m t (origins.Pipe pipe item) value h is = absurd cc
served_first program m t (origins.Timer timer deadline) value h is = absurd cc

-- the word of the event's origin
pub origin_holds : (program : Program) (readings : Readings) (words : Memory) (m : Model) (thread : ThreadId) (time : ℕ) (chain : Chain) → Background program readings words m →
    Lasts 0 m → ScanHolds program words m (scan_at thread time (Origin chain)) →
    ScanHolds program words m (scan_at thread time (Value chain (origin_of (words (place_in thread.0 chain.commit_word header.origin)))))
origin_holds program readings words m thread time chain b few h =
    let k : KnowsChain program words m thread.0 time chain = h.knows in
    let found = sound_chain program readings m thread.0 chain.running b.sound h.known k.running in
    let e : Event = found.event in
    let bits = served_bits program readings m thread.0 e.origin e.value b.accepted b.sound few h.known found.served in
    record {
      known = h.known;
      calm = h.calm;
      knows = (
        k,
        (
          e,
          found.is,
          ap (λ c. origin_of (words (place_in thread.0 c header.origin))) k.commit_word
              ∙ (ap origin_of (event_words program words m thread.0 e h.known b.private found.is).0 ∙ origin_of-origin_word e.origin bits.0),
        ),
      );
    }

-- the value of the event
pub value_word : (program : Program) (readings : Readings) (words : Memory) (m : Model) (t time : ℕ) (chain : Chain) (e : Event) → Background program readings words m →
    t < length program.threads → KnowsChain program words m t time chain → (thread_of m t).event ≡ Some e → words (place_in t chain.commit_word header.value) ≡ e.value
value_word program readings words m t time chain e b known k is =
    ap (λ c. words (place_in t c header.value)) k.commit_word ∙ (event_words program words m t e known b.private is).1

-- the running chain is picked
chain_picked : (program : Program) (readings : Readings) (words : Memory) (m : Model) (thread : ThreadId) (time : ℕ) (chain : Chain) (first : ℕ) (e : Event) →
    Background program readings words m → thread.0 < length program.threads → IsCalm program m → KnowsChain program words m thread.0 time chain →
    (thread_of m thread.0).event ≡ Some e → ForSome (thread_def program thread.0).expires (λ ticks. first ≡ (thread_of m thread.0).first) →
    ScanHolds program words m (scan_at thread time (Picked (chain_pick thread time chain first e)))
chain_picked program readings words m thread time chain first e b known calm k is at_first =
    let served = event_served program readings m thread.0 chain.running e b.sound known k.running is in
    record {
      known = known;
      calm = calm;
      knows = record {
        known = known;
        calm = calm;
        scan = k.before.scan;
        scanned = k.before.scanned;
        time = k.before.time_is;
        passed = λ u within above. k.before.passed u within (omega arith);
        pending_is = pending-running program m thread.0 k.before.scan chain.running k.before.scanned k.running ∙ is;
        held = served_first program m thread.0 e.origin e.value served;
        running = sym k.running;
        position = k.position;
        commit_word = k.commit_word;
        first = λ task runs. at_first;
        loaded = λ idle. absurd cc;
      };
    }

-- after the value: where the thread expires, the time of the chain's first commit follows
after_value_holds : (program : Program) (readings : Readings) (words : Memory) (m : Model) (thread : ThreadId) (time : ℕ) (chain : Chain) (e : Event) (expires : Option ℕ) →
    (thread_def program thread.0).expires ≡ expires → Background program readings words m → thread.0 < length program.threads → IsCalm program m →
    KnowsChain program words m thread.0 time chain → (thread_of m thread.0).event ≡ Some e → ScanHolds program words m (after_value thread time chain e expires)
after_value_holds program readings words m thread time chain e None never b known calm k is =
    chain_picked program readings words m thread time chain 0 e b known calm k is (λ ticks some. absurd (let clash : None ≡ Some ticks = sym never ∙ some in cc))
after_value_holds program readings words m thread time chain e (Some ticks) expires b known calm k is = record { known = known; calm = calm; knows = (k, is) }

pub value_holds : (program : Program) (readings : Readings) (words : Memory) (m : Model) (thread : ThreadId) (time : ℕ) (chain : Chain) (o : origin.Origin) →
    Background program readings words m → ScanHolds program words m (scan_at thread time (Value chain o)) →
    ScanHolds program words m (after_value thread time chain (record { origin = o; value = words (place_in thread.0 chain.commit_word header.value) }) (thread_def program thread.0).expires)
value_holds program readings words m thread time chain o b h =
    let k : KnowsChain program words m thread.0 time chain = h.knows.0 in
    let at : HasOrigin m thread.0 o = h.knows.1 in
    let e : Event = at.0 in
    let is : (thread_of m thread.0).event ≡ Some e = at.1 in
    let same : o ≡ e.origin = at.2 in
    let value : words (place_in thread.0 chain.commit_word header.value) ≡ e.value = value_word program readings words m thread.0 time chain e b h.known k is in
    after_value_holds program readings words m thread time chain _ (thread_def program thread.0).expires refl b h.known h.calm k
    (is ∙ (ap (λ (v : ℕ). Some (record { origin = e.origin; value = v })) (sym value)
    ∙ ap (λ (z : origin.Origin). Some (record { origin = z; value = words (place_in thread.0 chain.commit_word header.value) })) (sym same)))

-- the time of the chain's first commit
pub first_holds : (program : Program) (readings : Readings) (words : Memory) (m : Model) (thread : ThreadId) (time : ℕ) (chain : Chain) (e : Event) →
    Background program readings words m → ScanHolds program words m (scan_at thread time (First chain e)) →
    ScanHolds program words m (scan_at thread time (Picked (chain_pick thread time chain (words (place_in thread.0 chain.commit_word header.first)) e)))
first_holds program readings words m thread time chain e b h =
    let k : KnowsChain program words m thread.0 time chain = h.knows.0 in
    chain_picked program readings words m thread time chain _ e b h.known h.calm k h.knows.1
    (λ ticks some. ap (λ c. words (place_in thread.0 c header.first)) k.commit_word ∙ first_word program words m thread.0 h.known b.private)
