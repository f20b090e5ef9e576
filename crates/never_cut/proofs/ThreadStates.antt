-- The state of a thread changes by its own commits alone.
use Rattle.never_cut.proofs.Common.{◌≡◌, inl, inr, ℕ, ◌<◌, Bool, true, false, List, [], ◌∷◌, length, Option, Some, None, refl, sym, ap, ◌∙◌, subst, length-set, if◌then◌else◌, eq-eqb, ne_eqb, cases_eq, Event, Entry, Push, Refuse, Skip, Tick, Scan, Look, Commit, Release, Program, task_def, source_thread, Model, ScanModel, ThreadModel, thread_of, is_running, pending, commit, expired_after, end_at, start_at, task_at, is_expired, thread_after, with_first, Readings, effect, next_event, fed_by, pushed, released, after, state_after, state_at_end, state_by, state_from, StatesByCommits}
use Rattle.never_cut.specs.Commit.{committed}
use Rattle.never_cut.proofs.Threads.{kept-set}
use Rattle.never_cut.proofs.Commits.{committed-own, commit-other, commit-count}
use Rattle.never_cut.proofs.Traps.{after_task}

first_state : (time : ℕ) (x : ThreadModel) → (with_first time x).state ≡ x.state
first_state time x = by_running (is_running x)
  where
    by_running : (b : Bool) → (if b then x else record x { first = time }).state ≡ x.state
    by_running true = refl
    by_running false = refl

-- a commit of a thread makes its state
own_state : (program : Program) (t : ℕ) (m : Model) → t < length m.threads → (thread_of (commit program t m) t).state ≡ state_after program m t (thread_of m t).state
own_state program t m lt = by_scan m.scan
  where
    state : List ℕ
    state = (thread_of m t).state

    by_expiry : (e : Event) (time : ℕ) (over : Bool) →
        (if over then expired_after e (thread_of m t) else thread_after e (end_at program m t e time).outcome (end_at program m t e time).state (with_first time (thread_of m t))).state
        ≡ (if over then (thread_of m t).state else state_at_end program m t e time (thread_of m t).state)
    by_expiry e time true = refl
    by_expiry e time false =
        after_task e (task_def program (task_at program m t)).code (task_def program (task_at program m t)).limit (start_at program m t e time) (with_first time (thread_of m t))
        (first_state time (thread_of m t))

    by_event : (time : ℕ) (o : Option Event) →
        (thread_of (elim o as (λ _. Model) [ None ↦ m | Some e ↦ committed program t e time m ]) t).state
        ≡ elim o as (λ _. List ℕ) [ None ↦ (thread_of m t).state | Some e ↦ if is_expired program m t time then (thread_of m t).state else state_at_end program m t e time (thread_of m t).state ]
    by_event time None = refl
    by_event time (Some e) = ap (λ (x : ThreadModel). x.state) (committed-own program t e time m lt) ∙ by_expiry e time (is_expired program m t time)

    by_scan : (o : Option ScanModel) →
        (thread_of (elim o as (λ _. Model) [ None ↦ m | Some scan ↦ elim (pending program m t) as (λ _. Model) [ None ↦ m | Some e ↦ committed program t e scan.time m ] ]) t).state
        ≡ elim o as (λ _. List ℕ) [
          | None ↦ (thread_of m t).state
          | Some scan ↦ elim (pending program m t) as (λ _. List ℕ) [ None ↦ (thread_of m t).state | Some e ↦ if is_expired program m t scan.time then (thread_of m t).state else state_at_end program m t e scan.time (thread_of m t).state ]
        ]
    by_scan None = refl
    by_scan (Some scan) = by_event scan.time (pending program m t)

-- each entry makes of a thread's state what it says, and only a commit of the thread says anything
pub state_step : (program : Program) (readings : Readings) (t : ℕ) (m : Model) (e : Entry) → t < length m.threads →
    (thread_of (effect program readings m e) t).state ≡ state_by program t e m (thread_of m t).state
state_step program readings t m (Push i) lt = kept-set (λ (x : ThreadModel). x.state) m.threads (source_thread program i.0) t (pushed (next_event readings m i.0) (fed_by program m i.0)) refl
state_step program readings t m (Refuse i) lt = refl
state_step program readings t m (Skip i) lt = refl
state_step program readings t m (Tick by) lt = refl
state_step program readings t m Scan lt = refl
state_step program readings t m (Look u) lt = refl
state_step program readings t m (Commit u) lt =
    elim (cases_eq u.0 t) [
      | inl same ↦ rw (eq-eqb u.0 t same) (subst (λ k. (thread_of (commit program k m) t).state ≡ state_after program m t (thread_of m t).state) (sym same) (own_state program t m lt))
      | inr apart ↦ rw (ne_eqb u.0 t apart) (ap (λ (x : ThreadModel). x.state) (commit-other program u.0 t m (λ is. apart (sym is))))
    ]
state_step program readings t m (Release u) lt = kept-set (λ (x : ThreadModel). x.state) m.threads u.0 t (released (thread_of m u.0)) refl

-- each entry keeps the number of threads
pub effect-count : (program : Program) (readings : Readings) (m : Model) (e : Entry) → length (effect program readings m e).threads ≡ length m.threads
effect-count program readings m (Push i) = length-set m.threads (source_thread program i.0) _
effect-count program readings m (Refuse i) = refl
effect-count program readings m (Skip i) = refl
effect-count program readings m (Tick by) = refl
effect-count program readings m Scan = refl
effect-count program readings m (Look t) = refl
effect-count program readings m (Commit t) = commit-count program t.0 m
effect-count program readings m (Release t) = length-set m.threads t.0 _

state_is : (program : Program) (readings : Readings) (t : ℕ) (m : Model) (entries : List Entry) → t < length m.threads →
    (thread_of (after program readings m entries) t).state ≡ state_from program readings t m entries (thread_of m t).state
state_is program readings t m [] lt = refl
state_is program readings t m (e ∷ entries) lt =
    state_is program readings t (effect program readings m e) entries (rw (effect-count program readings m e) lt)
    ∙ ap (state_from program readings t (effect program readings m e) entries) (state_step program readings t m e lt)

pub states_by_commits : (program : Program) (readings : Readings) (first : Model) (journal : List Entry) → length first.threads ≡ length program.threads →
    StatesByCommits program readings first journal
states_by_commits program readings first journal count t lt = state_is program readings t first journal (rw count lt)
