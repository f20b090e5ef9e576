-- What the kernel's entries make of a state doesn't depend on what others do to it, the first event of a queue aside.
use Rattle.std.proofs.Common.{◌≡◌, ℕ, zero, suc, ◌+◌, ◌-◌, ◌&&◌, Bool, true, false, List, [], ◌∷◌, map, length, slice_index_or, set, refl, sym, ap, ◌∙◌, subst, Option, Some, None, IsSome}
use Rattle.std.specs.Prelude.{if◌then◌else◌}
use Rattle.ink_base.specs.declared.event.Event.{Event}
use Rattle.ink_base.specs.declared.ids.ThreadId.{ThreadId}
use Rattle.ink_base.specs.declared.ids.TaskId.{TaskId}
use Rattle.ink_base.specs.declared.entry.Entry.TheVariants as entries
use Rattle.task_isa.specs.declared.program.Program.{Program}
use Rattle.task_isa.specs.declared.outcome.Outcome.{Outcome}
use Rattle.task_isa.specs.declared.outcome.Outcome.TheVariants as outcomes
use Rattle.task_isa.specs.declared.task_end.TaskEnd.{TaskEnd}
use Rattle.task_isa.specs.Meaning.{task_of}
use Rattle.prog_check.specs.Lookup.{thread_def, task_def, first_task}
use Rattle.never_cut.specs.declared.model.Model.{Model}
use Rattle.never_cut.specs.declared.scan_model.ScanModel.{ScanModel}
use Rattle.never_cut.specs.declared.thread_model.ThreadModel.{ThreadModel}
use Rattle.never_cut.specs.State.{thread_of, no_thread, is_looked, is_running, unfinished}
use Rattle.never_cut.specs.kept.Actors.{without_held}
use Rattle.never_cut.specs.Commit.{outputs_of, rooms, is_overdue, is_expired, with_first, consumed, thread_after, expired_after, ended, expired, committed, commit, end_at}
use Rattle.never_cut.specs.Pending.{pending, later_event, first_of}
use Rattle.never_cut.specs.Entries.{Readings, IsPassed, ArePassed, InScan, Legal}
use Rattle.kernel_account.specs.Follows.{kernels_part}

-- a thread of the kernel's part
thread_map : (f : ThreadModel → ThreadModel) (xs : List ThreadModel) (t : ℕ) → f no_thread ≡ no_thread → slice_index_or (map f xs) t no_thread ≡ f (slice_index_or xs t no_thread)
thread_map f [] t h = sym h
thread_map f (x ∷ xs) zero h = refl
thread_map f (x ∷ xs) (suc t) h = thread_map f xs t h

pub thread_part : (m : Model) (t : ℕ) → thread_of (kernels_part m) t ≡ without_held (thread_of m t)
thread_part m t = thread_map without_held m.threads t refl

pub map_set : (f : ThreadModel → ThreadModel) (xs : List ThreadModel) (t : ℕ) (x : ThreadModel) → map f (set xs t x) ≡ set (map f xs) t (f x)
map_set f [] t x = refl
map_set f (y ∷ xs) zero x = refl
map_set f (y ∷ xs) (suc t) x = ap (λ zs. f y ∷ zs) (map_set f xs t x)

-- a thread's changes leave its held events alone
first_part : (time : ℕ) (x : ThreadModel) → without_held (with_first time x) ≡ with_first time (without_held x)
first_part time x = by_running (is_running x)
  where
    by_running : (b : Bool) → without_held (if b then x else record x { first = time }) ≡ (if b then without_held x else record (without_held x) { first = time })
    by_running true = refl
    by_running false = refl

after_part : (e : Event) (o : Outcome) (state : List ℕ) (x : ThreadModel) → without_held (thread_after e o state x) ≡ thread_after e o state (without_held x)
after_part e (outcomes.Next task) state x = refl
after_part e outcomes.Done state x = refl
after_part e (outcomes.Trap code) state x = refl

expired_part : (t : ℕ) (e : Event) (m : Model) → kernels_part (expired t e m) ≡ expired t e (kernels_part m)
expired_part t e m = λ j. record (kernels_part m) { threads = (map_set without_held m.threads t (expired_after e (thread_of m t)) ∙ ap (λ x. set (map without_held m.threads) t (expired_after e x)) (sym (thread_part m t))) j }

ended_part : (t : ℕ) (e : Event) (time : ℕ) (end : TaskEnd) (m : Model) → kernels_part (ended t e time end m) ≡ ended t e time end (kernels_part m)
ended_part t e time end m =
    λ j. record (ended t e time end (kernels_part m)) {
      threads =
          (map_set without_held m.threads t (thread_after e end.outcome end.state (with_first time (thread_of m t)))
          ∙ ap (set (map without_held m.threads) t) (after_part e end.outcome end.state (with_first time (thread_of m t)) ∙ ap (thread_after e end.outcome end.state) (first_part time (thread_of m t) ∙ ap (with_first time) (sym (thread_part m t))))) j;
    }

consumed_part : (b : Bool) (e : Event) (m : Model) → kernels_part (consumed b e m) ≡ consumed b e (kernels_part m)
consumed_part true e m = refl
consumed_part false e m = refl

-- a commit by what it depends on
abbrev committed_by : ℕ → Event → ℕ → (is_expired runs : Bool) → TaskEnd → Model → Model
committed_by t e time b r end m = record (if b then expired t e m else ended t e time end (consumed r e m)) { commits = m.commits + 1; scan = None }

by_part : (t : ℕ) (e : Event) (time : ℕ) (b r : Bool) (end : TaskEnd) (m : Model) → kernels_part (committed_by t e time b r end m) ≡ committed_by t e time b r end (kernels_part m)
by_part t e time true r end m = ap (λ (x : Model). record x { commits = m.commits + 1; scan = None }) (expired_part t e m)
by_part t e time false r end m = ap (λ (x : Model). record x { commits = m.commits + 1; scan = None }) (ended_part t e time end (consumed r e m) ∙ ap (ended t e time end) (consumed_part r e m))

-- what the end of a task depends on
abbrev end_by : Program → Model → ℕ → Event → ℕ → ThreadModel → TaskEnd
end_by program m t e time x =
    let task : ℕ = elim x.running [ Some task ↦ task.0 | None ↦ first_task program t ] in
    task_of (task_def program task).code (task_def program task).limit
    (record { state = x.state; event = e; time = time; room = rooms program m; log_room = (thread_def program t).log - length (outputs_of m t) })

pub committed_part : (program : Program) (t : ℕ) (e : Event) (time : ℕ) (m : Model) → kernels_part (committed program t e time m) ≡ committed program t e time (kernels_part m)
committed_part program t e time m =
    let x = sym (thread_part m t) in
    by_part t e time (is_expired program m t time) (is_running (thread_of m t)) (end_at program m t e time) m
    ∙ (λ j. committed_by t e time (is_running (x j) && is_overdue (thread_def program t).expires (x j).first time) (is_running (x j)) (end_by program (kernels_part m) t e time (x j)) (kernels_part m))

-- what is pending depends on the first event of the queue besides
abbrev pending_by : Program → Model → ℕ → Option Event → ThreadModel → Option Event
pending_by program m t first x = elim m.scan [
  | None ↦ None
  | Some scan ↦ elim x.running [ Some task ↦ x.event | None ↦ if is_looked scan.looked t then later_event program m t scan.time else first ]
]

pub pending_part : (program : Program) (m : Model) (t : ℕ) → pending program m t ≡ pending_by program (kernels_part m) t (first_of (unfinished (thread_of m t))) (thread_of (kernels_part m) t)
pending_part program m t = ap (pending_by program (kernels_part m) t (first_of (unfinished (thread_of m t)))) (sym (thread_part m t))

-- the first events of two queues are the same, where they matter: a scan is there that has not looked at the thread, and no chain runs
abbrev pub FirstSame : Model → Model → ℕ → Type 0
FirstSame m a t = (scan : ScanModel) → m.scan ≡ Some scan → is_looked scan.looked t ≡ false → (thread_of m t).running ≡ None → first_of (unfinished (thread_of a t)) ≡ first_of (unfinished (thread_of m t))

abbrev pending_at : Program → Model → ℕ → Option Event → Option Event → Option ScanModel → Option TaskId → Option Event
pending_at program m t first event s r = elim s [
  | None ↦ None
  | Some scan ↦ elim r [ Some task ↦ event | None ↦ if is_looked scan.looked t then later_event program m t scan.time else first ]
]

first_swap : (program : Program) (m : Model) (t : ℕ) (f g event : Option Event) (s : Option ScanModel) (r : Option TaskId) → ((scan : ScanModel) → s ≡ Some scan → is_looked scan.looked t ≡ false → r ≡ None → f ≡ g)
    → pending_at program m t f event s r ≡ pending_at program m t g event s r
first_swap program m t f g event None r h = refl
first_swap program m t f g event (Some scan) (Some task) h = refl
first_swap program m t f g event (Some scan) None h = by_looked (is_looked scan.looked t) refl
  where
    by_looked : (b : Bool) → is_looked scan.looked t ≡ b → (if b then later_event program m t scan.time else f) ≡ (if b then later_event program m t scan.time else g)
    by_looked true is = refl
    by_looked false is = h scan refl is refl

pub pending_same : (program : Program) (m a : Model) (t : ℕ) → kernels_part a ≡ kernels_part m → FirstSame m a t → pending program a t ≡ pending program m t
pending_same program m a t same first =
    pending_part program a t
    ∙ (λ j. pending_by program (same j) t (first_of (unfinished (thread_of a t))) (thread_of (same j) t))
    ∙ first_swap program (kernels_part m) t (first_of (unfinished (thread_of a t))) (first_of (unfinished (thread_of m t))) (thread_of (kernels_part m) t).event m.scan (thread_of (kernels_part m) t).running
    (λ scan is looked idle. first scan is looked (ap (λ (x : ThreadModel). x.running) (sym (thread_part m t)) ∙ idle))
    ∙ sym (pending_part program m t)

-- a thread that was passed
passed_part : (program : Program) (m : Model) (scan : ScanModel) (u : ℕ) → IsPassed program m scan u → IsPassed program (kernels_part m) scan u
passed_part program m scan u h = record { looked = h.looked; idle = ap (λ x. x.running) (thread_part m u) ∙ h.idle; nothing = h.nothing }

passed_back : (program : Program) (m : Model) (scan : ScanModel) (u : ℕ) → IsPassed program (kernels_part m) scan u → IsPassed program m scan u
passed_back program m scan u h = record { looked = h.looked; idle = sym (ap (λ x. x.running) (thread_part m u)) ∙ h.idle; nothing = h.nothing }

pub passed_same : (program : Program) (m a : Model) (scan : ScanModel) (t : ℕ) → kernels_part a ≡ kernels_part m → ArePassed program m scan t → ArePassed program a scan t
passed_same program m a scan t same h u known above = passed_back program a scan u (subst (λ (k : Model). IsPassed program k scan u) (sym same) (passed_part program m scan u (h u known above)))

-- the same commit is legal, and makes of both states the same
pub commit_legal : (program : Program) (readings others : Readings) (m a : Model) (t : ThreadId) → kernels_part a ≡ kernels_part m → FirstSame m a t.0
    → Legal program readings m (entries.Commit t) → Legal program others a (entries.Commit t)
commit_legal program readings others m a t same first legal = (
  legal.0,
  in_scan m.scan (ap (λ (k : Model). k.scan) same) legal.1,
  subst IsSome (sym (pending_same program m a t.0 same first)) legal.2,
)
  where
    in_scan : (o : Option ScanModel) → a.scan ≡ o → InScan (record m { scan = o }) (λ scan. ArePassed program m scan t.0) → InScan a (λ scan. ArePassed program a scan t.0)
    in_scan None is h = absurd h
    in_scan (Some scan) is h = subst (λ (o : Option ScanModel). InScan (record m { scan = o }) (λ s. ArePassed program a s t.0)) (sym is) (passed_same program m a scan t.0 same h)

abbrev commit_at : Program → ℕ → Option Event → Model → Option ScanModel → Model
commit_at program t o m s = elim s [ None ↦ m | Some scan ↦ elim o [ None ↦ m | Some e ↦ committed program t e scan.time m ] ]

abbrev commit_by : Program → ℕ → Option Event → Model → Model
commit_by program t o m = commit_at program t o m m.scan

by_pending : (program : Program) (t : ℕ) (o : Option Event) (m : Model) → kernels_part (commit_by program t o m) ≡ commit_by program t o (kernels_part m)
by_pending program t o m = by_scan m.scan o
  where
    by_scan : (s : Option ScanModel) (o : Option Event) → kernels_part (commit_at program t o m s) ≡ commit_at program t o (kernels_part m) s
    by_scan None o = refl
    by_scan (Some scan) None = refl
    by_scan (Some scan) (Some e) = committed_part program t e scan.time m

pub commit_same : (program : Program) (m a : Model) (t : ℕ) → kernels_part a ≡ kernels_part m → FirstSame m a t → kernels_part (commit program t a) ≡ kernels_part (commit program t m)
commit_same program m a t same first = by_pending program t (pending program a t) a ∙ (λ j. commit_by program t (pending_same program m a t same first j) (same j)) ∙ sym (by_pending program t (pending program m t) m)

-- a commit leaves each queue's events, and how many were released
pub record SameQueues (old new : Model) : Type 0 where
  pub held : (u : ℕ) → (thread_of new u).held ≡ (thread_of old u).held
  pub released : (u : ℕ) → (thread_of new u).released ≡ (thread_of old u).released

set_keeps : {A : Type 0} (f : ThreadModel → A) (xs : List ThreadModel) (t u : ℕ) (x : ThreadModel) → f x ≡ f (slice_index_or xs t no_thread) → f (slice_index_or (set xs t x) u no_thread) ≡ f (slice_index_or xs u no_thread)
set_keeps f [] t u x h = refl
set_keeps f (y ∷ xs) zero zero x h = h
set_keeps f (y ∷ xs) zero (suc u) x h = refl
set_keeps f (y ∷ xs) (suc t) zero x h = refl
set_keeps f (y ∷ xs) (suc t) (suc u) x h = set_keeps f xs t u x h

abbrev queue_part : ThreadModel → List Event × ℕ
queue_part x = (x.held, x.released)

first_keeps : (time : ℕ) (x : ThreadModel) → queue_part (with_first time x) ≡ queue_part x
first_keeps time x = by_running (is_running x)
  where
    by_running : (b : Bool) → queue_part (if b then x else record x { first = time }) ≡ queue_part x
    by_running true = refl
    by_running false = refl

after_keeps : (e : Event) (o : Outcome) (state : List ℕ) (x : ThreadModel) → queue_part (thread_after e o state x) ≡ queue_part x
after_keeps e (outcomes.Next task) state x = refl
after_keeps e outcomes.Done state x = refl
after_keeps e (outcomes.Trap code) state x = refl

consumed_threads : (b : Bool) (e : Event) (m : Model) → (consumed b e m).threads ≡ m.threads
consumed_threads true e m = refl
consumed_threads false e m = refl

by_keeps : (t : ℕ) (e : Event) (time : ℕ) (b r : Bool) (end : TaskEnd) (m : Model) (u : ℕ) → queue_part (thread_of (committed_by t e time b r end m) u) ≡ queue_part (thread_of m u)
by_keeps t e time true r end m u = set_keeps queue_part m.threads t u (expired_after e (thread_of m t)) refl
by_keeps t e time false r end m u =
    let threads = consumed_threads r e m in
    subst (λ (xs : List ThreadModel). queue_part (slice_index_or (set xs t (thread_after e end.outcome end.state (with_first time (slice_index_or xs t no_thread)))) u no_thread) ≡ queue_part (thread_of m u)) (sym threads)
    (set_keeps queue_part m.threads t u _ (after_keeps e end.outcome end.state (with_first time (thread_of m t)) ∙ first_keeps time (thread_of m t)))

commit_keeps : (program : Program) (t : ℕ) (m : Model) (u : ℕ) → queue_part (thread_of (commit program t m) u) ≡ queue_part (thread_of m u)
commit_keeps program t m u = by_scan m.scan (pending program m t)
  where
    by_scan : (s : Option ScanModel) (o : Option Event) → queue_part (thread_of (commit_at program t o m s) u) ≡ queue_part (thread_of m u)
    by_scan None o = refl
    by_scan (Some scan) None = refl
    by_scan (Some scan) (Some e) = by_keeps t e scan.time (is_expired program m t scan.time) (is_running (thread_of m t)) (end_at program m t e scan.time) m u

pub commit_queues : (program : Program) (t : ℕ) (m : Model) → SameQueues m (commit program t m)
commit_queues program t m = record { held = λ u. ap (λ (z : List Event × ℕ). z.0) (commit_keeps program t m u); released = λ u. ap (λ (z : List Event × ℕ). z.1) (commit_keeps program t m u) }

-- nor does it change the sources or the clock
by_rest : (t : ℕ) (e : Event) (time : ℕ) (b r : Bool) (end : TaskEnd) (m : Model) → ((committed_by t e time b r end m).sources ≡ m.sources) × ((committed_by t e time b r end m).clock ≡ m.clock)
by_rest t e time true r end m = (refl, refl)
by_rest t e time false true end m = (refl, refl)
by_rest t e time false false end m = (refl, refl)

commit_rest : (program : Program) (t : ℕ) (m : Model) → ((commit program t m).sources ≡ m.sources) × ((commit program t m).clock ≡ m.clock)
commit_rest program t m = by_scan m.scan (pending program m t)
  where
    by_scan : (s : Option ScanModel) (o : Option Event) → ((commit_at program t o m s).sources ≡ m.sources) × ((commit_at program t o m s).clock ≡ m.clock)
    by_scan None o = (refl, refl)
    by_scan (Some scan) None = (refl, refl)
    by_scan (Some scan) (Some e) = by_rest t e scan.time (is_expired program m t scan.time) (is_running (thread_of m t)) (end_at program m t e scan.time) m

pub commit_sources : (program : Program) (t : ℕ) (m : Model) → (commit program t m).sources ≡ m.sources
commit_sources program t m = (commit_rest program t m).0

pub commit_clock : (program : Program) (t : ℕ) (m : Model) → (commit program t m).clock ≡ m.clock
commit_clock program t m = (commit_rest program t m).1
