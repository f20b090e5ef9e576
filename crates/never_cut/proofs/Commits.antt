-- What a commit changes: its thread, the pipes, the timers, the outputs, the number of commits and the scan.
use Rattle.never_cut.proofs.Common.{◌≡◌, ◌≢◌, ℕ, ◌+◌, ◌<◌, Bool, true, false, cond, List, [], ◌++◌, length, Option, Some, None, refl, sym, ap, ◌∙◌, length-set, get_or-set_same, get_or-set_other, if◌then◌else◌, IsSome, append-nil, ThreadId, Event, Commit, Program, Model, ScanModel, ThreadModel, thread_of, is_running, no_thread, pending, stamped, commit, expired, expired_after, ended, end_at, consumed, is_expired, thread_after, with_first, Readings, Legal, ArePassed}
use Rattle.never_cut.specs.Commit.{committed}

-- the thread after its service was committed
abbrev pub thread_committed : Program → ℕ → Event → ℕ → Model → ThreadModel
thread_committed program t e time m =
    if is_expired program m t time then expired_after e (thread_of m t)
    else thread_after e (end_at program m t e time).outcome (end_at program m t e time).state (with_first time (thread_of m t))

-- what the service puts out
abbrev pub outs_of : Program → ℕ → Event → ℕ → Model → List ℕ
outs_of program t e time m = if is_expired program m t time then [] else (end_at program m t e time).outs

-- the state after a service, by whether it expired, and whether its chain was running
abbrev pub served : Program → ℕ → Event → ℕ → Model → Bool → Bool → Model
served program t e time m over running =
    record (cond over (expired t e m) (ended t e time (end_at program m t e time) (consumed running e m))) { commits = m.commits + 1; scan = None }

pub committed-own : (program : Program) (t : ℕ) (e : Event) (time : ℕ) (m : Model) → t < length m.threads →
    thread_of (committed program t e time m) t ≡ thread_committed program t e time m
committed-own program t e time m lt = by_end (is_expired program m t time) (is_running (thread_of m t))
  where
    by_end : (over running : Bool) →
        thread_of (served program t e time m over running) t
        ≡ cond over (expired_after e (thread_of m t)) (thread_after e (end_at program m t e time).outcome (end_at program m t e time).state (with_first time (thread_of m t)))
    by_end true running = get_or-set_same m.threads t _ no_thread lt
    by_end false true = get_or-set_same m.threads t _ no_thread lt
    by_end false false = get_or-set_same m.threads t _ no_thread lt

pub committed-other : (program : Program) (t u : ℕ) (e : Event) (time : ℕ) (m : Model) → u ≢ t → thread_of (committed program t e time m) u ≡ thread_of m u
committed-other program t u e time m apart = by_end (is_expired program m t time) (is_running (thread_of m t))
  where
    by_end : (over running : Bool) → thread_of (served program t e time m over running) u ≡ thread_of m u
    by_end true running = get_or-set_other m.threads t u _ no_thread apart
    by_end false true = get_or-set_other m.threads t u _ no_thread apart
    by_end false false = get_or-set_other m.threads t u _ no_thread apart

pub committed-outputs : (program : Program) (t : ℕ) (e : Event) (time : ℕ) (m : Model) →
    (committed program t e time m).outputs ≡ m.outputs ++ stamped (m.commits + 1) t (outs_of program t e time m)
committed-outputs program t e time m = by_end (is_expired program m t time) (is_running (thread_of m t))
  where
    by_end : (over running : Bool) →
        (served program t e time m over running).outputs ≡ m.outputs ++ stamped (m.commits + 1) t (cond over [] (end_at program m t e time).outs)
    by_end true running = sym (append-nil m.outputs)
    by_end false true = refl
    by_end false false = refl

committed-sources : (program : Program) (t : ℕ) (e : Event) (time : ℕ) (m : Model) → (committed program t e time m).sources ≡ m.sources
committed-sources program t e time m = by_end (is_expired program m t time) (is_running (thread_of m t))
  where
    by_end : (over running : Bool) → (served program t e time m over running).sources ≡ m.sources
    by_end true running = refl
    by_end false true = refl
    by_end false false = refl

committed-count : (program : Program) (t : ℕ) (e : Event) (time : ℕ) (m : Model) → length (committed program t e time m).threads ≡ length m.threads
committed-count program t e time m = by_end (is_expired program m t time) (is_running (thread_of m t))
  where
    by_end : (over running : Bool) → length (served program t e time m over running).threads ≡ length m.threads
    by_end true running = length-set m.threads t _
    by_end false true = length-set m.threads t _
    by_end false false = length-set m.threads t _

-- a commit that stands on a scan and serves a pending event
pub record Serves (program : Program) (m : Model) (t : ℕ) : Type 0 where
  pub scan : ScanModel
  pub scanned : m.scan ≡ Some scan
  pub event : Event
  pub waits : pending program m t ≡ Some event
  pub makes : commit program t m ≡ committed program t event scan.time m

-- each legal one is
pub serves : (program : Program) (readings : Readings) (m : Model) (t : ThreadId) → Legal program readings m (Commit t) → Serves program m t.0
serves program readings m t legal = by_scan m.scan refl legal.1
  where
    with_event : Option Event → ℕ → Model
    with_event o time = elim o [ None ↦ m | Some e ↦ committed program t.0 e time m ]

    by_event : (scan : ScanModel) → m.scan ≡ Some scan → (o : Option Event) → pending program m t.0 ≡ o → IsSome o → Serves program m t.0
    by_event scan is None waits some = absurd (cc)
    by_event scan is (Some e) waits some = record {
      scan = scan;
      scanned = is;
      event = e;
      waits = waits;
      makes =
          ap (λ (s : Option ScanModel). elim s as (λ _. Model) [ None ↦ m | Some found ↦ elim (pending program m t.0) as (λ _. Model) [ None ↦ m | Some x ↦ committed program t.0 x found.time m ] ]) is
          ∙ ap (λ (o : Option Event). elim o as (λ _. Model) [ None ↦ m | Some x ↦ committed program t.0 x scan.time m ]) waits;
    }

    by_scan : (o : Option ScanModel) → m.scan ≡ o → elim o as (λ _. Type 0) [ None ↦ ⊥ | Some scan ↦ ArePassed program m scan t.0 ] → Serves program m t.0
    by_scan None is passed = absurd passed
    by_scan (Some scan) is passed = by_event scan is (pending program m t.0) refl legal.2

-- what holds of a state and of what each commit makes of it
by_service : (program : Program) (t : ℕ) (m : Model) (P : Model → Type 0) → P m → ((e : Event) (time : ℕ) → P (committed program t e time m)) → P (commit program t m)
by_service program t m P none some = by_scan m.scan
  where
    by_event : (time : ℕ) (o : Option Event) → P (elim o as (λ _. Model) [ None ↦ m | Some e ↦ committed program t e time m ])
    by_event time None = none
    by_event time (Some e) = some e time

    by_scan : (o : Option ScanModel) → P (elim o as (λ _. Model) [ None ↦ m | Some scan ↦ elim (pending program m t) as (λ _. Model) [ None ↦ m | Some e ↦ committed program t e scan.time m ] ])
    by_scan None = none
    by_scan (Some scan) = by_event scan.time (pending program m t)

-- a commit leaves the sources and the other threads as they are
pub commit-sources : (program : Program) (t : ℕ) (m : Model) → (commit program t m).sources ≡ m.sources
commit-sources program t m = by_service program t m (λ next. next.sources ≡ m.sources) refl (λ e time. committed-sources program t e time m)

pub commit-other : (program : Program) (t u : ℕ) (m : Model) → u ≢ t → thread_of (commit program t m) u ≡ thread_of m u
commit-other program t u m apart = by_service program t m (λ next. thread_of next u ≡ thread_of m u) refl (λ e time. committed-other program t u e time m apart)

pub commit-count : (program : Program) (t : ℕ) (m : Model) → length (commit program t m).threads ≡ length m.threads
commit-count program t m = by_service program t m (λ next. length next.threads ≡ length m.threads) refl (λ e time. committed-count program t e time m)
