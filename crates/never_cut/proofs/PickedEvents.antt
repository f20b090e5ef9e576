-- What the event of a pick is.
use Rattle.never_cut.proofs.Common.{◌≡◌, ℕ, ◌%◌, ◌^◌, ◌<◌, length, Option, Some, None, refl, sym, ap, ◌∙◌, subst, arith, TaskId, Event, Origin, Program, Memory, pipe_def, timer_def, source_thread, Pick, Model, thread_of, pipe_of, Readings, event_at, IsSound, IsSoundPipe, IsQueued, IsServed, IsChain, IsPicked}
use Rattle.ink_base.specs.declared.event.Origin.TheVariants as origins
use Rattle.never_cut.proofs.Picks.{pending-running}
use Rattle.never_cut.proofs.Beginnings.{Begins, begins}

-- an event that thread t can serve, within its bits
abbrev pub IsServable : Program → ℕ → Event → Type 0
IsServable program t e = elim e.origin [
  | origins.Source source count ↦ (source.0 < length program.sources) × (source_thread program source.0 ≡ t) × (count < 64) × (e.value < 2 ^ 32)
  | origins.Pipe pipe item ↦ (pipe.0 < length program.pipes) × ((pipe_def program pipe.0).reader.0 ≡ t) × (item < 2 ^ 32) × (e.value < 2 ^ 32)
  | origins.Timer timer deadline ↦ (timer.0 < length program.timers) × ((timer_def program timer.0).thread.0 ≡ t) × (deadline < 2 ^ 48) × (e.value ≡ deadline % 2 ^ 32)
]

-- fewer than 2^32 items were taken from each pipe
abbrev pub TakenFit : Model → Type 0
TakenFit m = (q : ℕ) → (pipe_of m q).taken < 2 ^ 32

-- an event that a chain serves
served_servable : (program : Program) (readings : Readings) (m : Model) (t : ℕ) (o : Origin) (value : ℕ) → IsSound program readings m → t < length program.threads → TakenFit m →
    IsServed program m t (record { origin = o; value = value }) → IsServable program t (record { origin = o; value = value })
served_servable program readings m t (origins.Source source count) value h known few served =
    subst (IsQueued program t) served.1 ((h.threads t known).queued 0 served.0)
served_servable program readings m t (origins.Pipe pipe item) value h known few served =
    let taken = few pipe.0 in
    let next = served.2 in
    (served.0, served.1, omega arith, served.3)
served_servable program readings m t (origins.Timer timer deadline) value h known few served = served

-- an event whose service can begin
begun_servable : (program : Program) (readings : Readings) (m : Model) (t time : ℕ) (o : Origin) (value : ℕ) → IsSound program readings m → t < length program.threads → TakenFit m →
    time < 2 ^ 47 → Begins program m t time (record { origin = o; value = value }) → IsServable program t (record { origin = o; value = value })
begun_servable program readings m t time (origins.Source source count) value h known few early first =
    let some : 0 < length (thread_of m t).held = rw first.1 (omega arith) in
    let same : event_at (thread_of m t).held 0 ≡ record { origin = origins.Source source count; value = value } = ap (λ held. event_at held 0) first.1 in
    subst (IsQueued program t) same ((h.threads t known).queued 0 some)
begun_servable program readings m t time (origins.Pipe pipe item) value h known few early b =
    let p : IsSoundPipe program m pipe.0 = h.pipes pipe.0 b.0 in
    let taken = few pipe.0 in
    let number = b.3 in
    (b.0, b.1, omega arith, subst (λ n. n < 2 ^ 32) (sym b.4) (p.values 0))
begun_servable program readings m t time (origins.Timer timer deadline) value h known few early b =
    let due = b.3 in (b.0, b.1, omega arith, b.4)

-- the pick's event, where its thread is idle: its service can begin at the scan's time
pub picked_begins : (program : Program) (readings : Readings) (words : Memory) (m : Model) (pick : Pick) → IsSound program readings m → (h : IsPicked program words m pick) →
    pick.running ≡ None → Begins program m pick.thread.0 h.scan.time pick.event
picked_begins program readings words m pick sound h idle =
    begins program m pick.thread.0 h.scan pick.event (sound.threads pick.thread.0 h.known).queued (h.calm pick.thread.0 h.known) h.scanned (sym h.running ∙ idle) h.pending_is

-- the pick's event, where its thread's chain runs: the chain's event, which it serves
pub picked_serves : (program : Program) (readings : Readings) (words : Memory) (m : Model) (pick : Pick) (task : TaskId) → IsSound program readings m → (h : IsPicked program words m pick) →
    pick.running ≡ Some task → ((thread_of m pick.thread.0).event ≡ Some pick.event) × IsServed program m pick.thread.0 pick.event
picked_serves program readings words m pick task sound h runs =
    let is : (thread_of m pick.thread.0).running ≡ Some task = sym h.running ∙ runs in
    let chain : IsChain program m pick.thread.0 task.0 = (sound.threads pick.thread.0 h.known).chain task is in
    let event : (thread_of m pick.thread.0).event ≡ Some pick.event = sym (pending-running program m pick.thread.0 h.scan task h.scanned is) ∙ h.pending_is in
    let both : Some chain.event ≡ Some pick.event = sym chain.is ∙ event in
    let same : chain.event ≡ pick.event = cc in
    (event, subst (IsServed program m pick.thread.0) same chain.served)

-- the pick's event is one that its thread can serve, within its bits
pub picked_event : (program : Program) (readings : Readings) (words : Memory) (m : Model) (pick : Pick) → IsSound program readings m → IsPicked program words m pick → TakenFit m →
    IsServable program pick.thread.0 pick.event
picked_event program readings words m pick sound h few = by_running pick.running refl
  where
    by_running : (running : Option TaskId) → pick.running ≡ running → IsServable program pick.thread.0 pick.event
    by_running (Some task) runs =
        served_servable program readings m pick.thread.0 pick.event.origin pick.event.value sound h.known few (picked_serves program readings words m pick task sound h runs).1
    by_running None idle =
        let time = sound.scan h.scan h.scanned in
        let clock = sound.clock in
        begun_servable program readings m pick.thread.0 h.scan.time pick.event.origin pick.event.value sound h.known few (omega arith)
        (picked_begins program readings words m pick sound h idle)
