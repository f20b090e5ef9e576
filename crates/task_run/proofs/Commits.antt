-- The state after the commit of a pick.
use Rattle.task_run.proofs.Common.{◌≡◌, ℕ, ◌+◌, Bool, true, false, List, refl, ap, ◌∙◌, sym, Option, None, Some, ◌&&◌, if◌then◌else◌, append-nil, Event, Origin, Memory, Program, Effects, no_effects, thread_def, Pick, Model, ScanModel, ThreadModel, PipeModel, TimerModel, thread_of, is_running, pending, commit, expired, ended, end_at, is_expired, is_overdue, taken_from, moved_on, with_sends, with_timers, expired_after, thread_after, with_first, IsPicked, assignment, effects_of, result, saved}
use Rattle.never_cut.specs.Commit.{committed, consumed}
use Rattle.task_isa.specs.declared.task_end.TaskEnd.{TaskEnd}
use Rattle.task_run.proofs.Effects.{with_commit}

-- the pipes and timers once a service began
abbrev pub pipes_begun : Bool → Origin → List PipeModel → List PipeModel
pipes_begun running origin pipes = if running then pipes else taken_from origin pipes

abbrev pub timers_begun : Bool → Origin → List TimerModel → List TimerModel
timers_begun running origin timers = if running then timers else moved_on origin timers

-- the thread after the commit, by whether its chain has expired
abbrev pub thread_by : Bool → Event → TaskEnd → ℕ → ThreadModel → ThreadModel
thread_by late e end time x = if late then expired_after e x else thread_after e end.outcome end.state (with_first time x)

abbrev pub effects_by : Bool → TaskEnd → ThreadModel → Effects
effects_by late end x = if late then no_effects x.state else effects_of end

-- the state after a commit by its parts
abbrev pub made_by : Bool → Bool → ℕ → Event → ℕ → TaskEnd → Model → Model
made_by late running t e time end m =
    let effects : Effects = effects_by late end (thread_of m t) in
    with_commit t (thread_by late e end time (thread_of m t)) (with_sends effects.sends (pipes_begun running e.origin m.pipes))
    (with_timers effects.timers (timers_begun running e.origin m.timers)) effects.outs m

and-first : (a b : Bool) → (a && b) ≡ true → a ≡ true
and-first true b is = refl
and-first false b is = is

-- an expired chain was running
pub late-runs : (program : Program) (m : Model) (t time : ℕ) → is_expired program m t time ≡ true → is_running (thread_of m t) ≡ true
late-runs program m t time is = and-first (is_running (thread_of m t)) (is_overdue (thread_def program t).expires (thread_of m t).first time) is

committed-made : (program : Program) (t : ℕ) (e : Event) (time : ℕ) (m : Model) →
    committed program t e time m ≡ made_by (is_expired program m t time) (is_running (thread_of m t)) t e time (end_at program m t e time) m
committed-made program t e time m = by_end (is_expired program m t time) (is_running (thread_of m t)) (late-runs program m t time)
  where
    by_end : (late running : Bool) → (late ≡ true → running ≡ true) →
        record (if late then expired t e m else ended t e time (end_at program m t e time) (consumed running e m)) { commits = m.commits + 1; scan = None }
        ≡ made_by late running t e time (end_at program m t e time) m
    by_end true true runs = ap (λ l. record (expired t e m) { outputs = l; commits = m.commits + 1; scan = None }) (sym (append-nil m.outputs))
    by_end true false runs = absurd (let clash : false ≡ true = runs refl in cc)
    by_end false true runs = refl
    by_end false false runs = refl

-- the entry's effect, where the pick is pending
commit-pending : (program : Program) (words : Memory) (m : Model) (pick : Pick) → IsPicked program words m pick →
    commit program pick.thread.0 m ≡ committed program pick.thread.0 pick.event pick.time m
commit-pending program words m pick p =
    let t : ℕ = pick.thread.0 in
    let made : Option ScanModel → Option Event → Model =
    λ s q. elim s [ None ↦ m | Some scan ↦ elim q [ None ↦ m | Some e ↦ committed program t e scan.time m ] ]
    in ap (λ s. made s (pending program m t)) p.scanned
    ∙ (ap (λ q. made (Some p.scan) q) p.pending_is ∙ ap (λ time. committed program t pick.event time m) (sym p.time))

-- the thread after the pick's commit
abbrev pub own_thread : Program → Model → Pick → ThreadModel
own_thread program m pick =
    let t : ℕ = pick.thread.0 in
    thread_by (is_expired program m t pick.time) pick.event (end_at program m t pick.event pick.time) pick.time (thread_of m t)

-- and the pipes and timers after it
abbrev pub next_pipes : Program → Model → Pick → List PipeModel
next_pipes program m pick =
    with_sends (result (assignment program m pick) (saved program m pick.thread.0)).sends (pipes_begun (is_running (thread_of m pick.thread.0)) pick.event.origin m.pipes)

abbrev pub next_timers : Program → Model → Pick → List TimerModel
next_timers program m pick =
    with_timers (result (assignment program m pick) (saved program m pick.thread.0)).timers (timers_begun (is_running (thread_of m pick.thread.0)) pick.event.origin m.timers)

abbrev pub next_model : Program → Model → Pick → Model
next_model program m pick =
    with_commit pick.thread.0 (own_thread program m pick) (next_pipes program m pick) (next_timers program m pick)
    (result (assignment program m pick) (saved program m pick.thread.0)).outs m

pub commit-picked : (program : Program) (words : Memory) (m : Model) (pick : Pick) → IsPicked program words m pick →
    commit program pick.thread.0 m ≡ next_model program m pick
commit-picked program words m pick p = commit-pending program words m pick p ∙ committed-made program pick.thread.0 pick.event pick.time m
