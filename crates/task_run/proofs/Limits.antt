-- The numbers of offsets, positions, events, delays, chains and totals are in their ranges.
use Rattle.task_run.proofs.Common.{◌≡◌, ℕ, ◌+◌, ◌^◌, ◌<◌, ◌≤◌, Option, Some, None, length, arith, refl, ap, subst, eq-eqb, lt-ltb, get_or-le-sum_by, Event, Memory, Task, thread_def, task_def, no_task_def, code_len, IsAccepted, IsQueued, IsSound, published, event_at, IsFinishing, Background, Execution, FitsExecution, FitsChain, ForSome, TaskId, Origin, Program, number_of, Pick, Model, thread_of, queue_of, Readings, IsLoaded, Saved, period_word, IsServable, Ending, FitsOrigin, Assignment, IsOfPipe, IsOfTimer, begun, rested, finished_by, total_of, worked}
use Rattle.ink_base.specs.declared.limits.TheConstants as limits
use Rattle.ink_base.specs.declared.event.Origin.TheVariants as origins
use Rattle.task_run.specs.declared.ending.Ending.TheVariants as endings
use Rattle.task_run.proofs.Traps.{Keeps, begun-keeps}

-- a task has at most as many instructions as all tasks
code_small : (program : Program) (x : ℕ) → IsAccepted program → x < length program.tasks → length (task_def program x).code ≤ limits.INSTRUCTIONS
code_small program x accepted known =
    let few = accepted.counts.code in
    let one : length (task_def program x).code ≤ code_len program = get_or-le-sum_by (λ (task : Task). length task.code) program.tasks x no_task_def known in
    omega arith

-- an offset and a count within a task
pub execution_fits : (program : Program) (x : ℕ) (e : Execution) → IsAccepted program → x < length program.tasks → e.task.0 ≡ x → e.at < length (task_def program x).code →
    e.executed < (task_def program x).limit → FitsExecution program e
execution_fits program x e accepted known task inside left =
    let small : length (task_def program x).code ≤ limits.INSTRUCTIONS = code_small program x accepted known in
    let limit : (task_def program x).limit ≤ limits.TASK_LIMIT = (accepted.tasks x known).limit in
    record {
      task = rw task known;
      inside = rw task inside;
      small = omega arith;
      few = omega arith;
      left = rw task left;
    }

-- the position and the slot one turn behind it fit their bits
pub position_fits : (program : Program) (readings : Readings) (words : Memory) (m : Model) (t p : ℕ) → Background program readings words m → t < length program.threads →
    p ≡ (thread_of m t).released → p + (thread_def program t).queue < 2 ^ 21
position_fits program readings words m t p g known is =
    let small : published (queue_of (thread_of m t)) < 2 ^ 20 = g.shared.small t known in
    let queue : (thread_def program t).queue ≤ limits.QUEUE_PLACES = (g.accepted.threads t known).queue in
    omega arith

-- a source whose event is finished is one of the program
pub source_known : (program : Program) (readings : Readings) (words : Memory) (m : Model) (t i count : ℕ) → Background program readings words m → t < length program.threads →
    IsFinishing m t i count → i < length program.sources
source_known program readings words m t i count g known h =
    let some : 0 < length (thread_of m t).held = rw h.first.1 (omega arith) in
    let e : Event = record { origin = origins.Source (record { 0 = i }) count; value = h.value } in
    let here : event_at (thread_of m t).held 0 ≡ e = ap (λ l. event_at l 0) h.first.1 in
    let queued : IsQueued program t e = subst (λ z. IsQueued program t z) here ((g.sound.threads t known).queued 0 some) in
    queued.0

pub origin_fits : (program : Program) (t : ℕ) (o : Origin) (value : ℕ) → IsServable program t (record { origin = o; value = value }) → FitsOrigin o
origin_fits program t (origins.Source source count) value h = tt
origin_fits program t (origins.Pipe pipe item) value h = tt
origin_fits program t (origins.Timer timer deadline) value h = h.2

pub pipe_fits : (program : Program) (t : ℕ) (pick : Pick) (o : Origin) (value : ℕ) → length program.pipes ≤ limits.PIPES → IsOfPipe o →
    IsServable program t (record { origin = o; value = value }) → IsLoaded pick (record { origin = o; value = value }) → (number_of o < limits.PIPES) × (pick.taken < 2 ^ 32)
pipe_fits program t pick (origins.Source source count) value few of h loaded = absurd of
pipe_fits program t pick (origins.Pipe pipe item) value few of h loaded = let known = h.0 in let small = h.2 in (omega arith, omega arith)
pipe_fits program t pick (origins.Timer timer deadline) value few of h loaded = absurd of

pub timer_known : (program : Program) (t : ℕ) (o : Origin) (value : ℕ) → length program.timers ≤ limits.TIMERS → IsOfTimer o →
    IsServable program t (record { origin = o; value = value }) → number_of o < limits.TIMERS
timer_known program t (origins.Source source count) value few of h = absurd of
timer_known program t (origins.Pipe pipe item) value few of h = absurd of
timer_known program t (origins.Timer timer deadline) value few of h = let known = h.0 in omega arith

pub due_fits : (program : Program) (t : ℕ) (pick : Pick) (o : Origin) (value : ℕ) → IsOfTimer o → IsServable program t (record { origin = o; value = value }) →
    IsLoaded pick (record { origin = o; value = value }) → (1 ≤ pick.due_word) × (pick.due_word ≤ 2 ^ 48)
due_fits program t pick (origins.Source source count) value of h loaded = absurd of
due_fits program t pick (origins.Pipe pipe item) value of h loaded = absurd of
due_fits program t pick (origins.Timer timer deadline) value of h loaded = let small = h.2 in (omega arith, omega arith)

-- a period has 32 bits
pub period_fits : (program : Program) (readings : Readings) (m : Model) (t : ℕ) (o : Origin) (value : ℕ) → IsSound program readings m → IsOfTimer o →
    IsServable program t (record { origin = o; value = value }) → period_word program m t (number_of o) < 2 ^ 32
period_fits program readings m t (origins.Source source count) value sound of h = absurd of
period_fits program readings m t (origins.Pipe pipe item) value sound of h = absurd of
period_fits program readings m t (origins.Timer timer deadline) value sound of h =
    rw (lt-ltb timer.0 (length program.timers) h.0, eq-eqb _ _ h.1) (sound.timers timer.0 h.0).period

-- a chain that goes on began before the scan
pub chain_fits : (expires : Option ℕ) (running : Option TaskId) (first time began : ℕ) → ForSome running (λ task. ForSome expires (λ ticks. first ≡ began)) → began ≤ time →
    FitsChain expires running first time
chain_fits (Some ticks) (Some task) first time began is early = let same : first ≡ began = is task refl ticks refl in omega arith
chain_fits (Some ticks) None first time began is early = tt
chain_fits None (Some task) first time began is early = tt
chain_fits None None first time began is early = tt

-- the totals are those from before the service
finished_totals : (o : Origin) (y : Saved) (ending : Ending) → total_of ending (finished_by o y) ≡ total_of ending y
finished_totals (origins.Source source count) y (endings.Next task) = refl
finished_totals (origins.Source source count) y endings.Done = refl
finished_totals (origins.Source source count) y endings.Trapped = refl
finished_totals (origins.Source source count) y endings.Expired = refl
finished_totals (origins.Pipe pipe item) y ending = refl
finished_totals (origins.Timer timer deadline) y ending = refl

pub total_fits : (x : Saved) (a : Assignment) (pick : Pick) (stamp : ℕ) (ending : Ending) (most : ℕ) → x.served < most → x.trapped < most → x.expired < most →
    total_of ending (finished_by pick.event.origin (rested (worked x a pick stamp))) < most
total_fits x a pick stamp ending most served_fits trapped_fits expired_fits =
    rw (finished_totals pick.event.origin (rested (worked x a pick stamp)) ending) (by_ending ending)
  where
    keeps : Keeps x (begun pick x)
    keeps = begun-keeps pick x

    by_ending : (ending : Ending) → total_of ending (rested (worked x a pick stamp)) < most
    by_ending (endings.Next task) = let served = keeps.served in omega arith
    by_ending endings.Done = let served = keeps.served in omega arith
    by_ending endings.Trapped = let trapped = keeps.trapped in omega arith
    by_ending endings.Expired = let expired = keeps.expired in omega arith
