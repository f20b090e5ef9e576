-- What a commit leaves of queues and sources: a queue whose event is finished, or all as it was.
use Rattle.kernel_core.proofs.Common.{◌≡◌, ℕ, ◌+◌, ◌<◌, Bool, true, false, List, length, get_or, set, Option, Some, None, refl, sym, ap, ◌∙◌, subst, inl, inr, get_or-set_same, get_or-set_other, ◌||◌, if◌then◌else◌, cases_eq, Event, Program, with_finished, Model, ThreadModel, ScanModel, thread_of, queue_of, source_in, is_running, no_thread, no_source, pending, IsPicked, commit, committed, consumed, ended, end_at, expired, expired_after, is_expired, is_of_queue, thread_after, with_end, with_first, Memory, sides_of}
use Rattle.std.proofs.Math.Path.{fun_ext}
use Rattle.task_isa.specs.declared.outcome.Outcome.{Outcome}
use Rattle.task_isa.specs.declared.outcome.Outcome.TheVariants as outcomes
use Rattle.task_isa.specs.declared.task_end.TaskEnd.{TaskEnd}
use Rattle.ink_layout.specs.declared.pick.Pick.{Pick}

-- the thread's queue is as it was, or its event, which is one of the queue, is finished
pub data Side (e : Event) (x y : ThreadModel) : Type 0 where
  Same : queue_of y ≡ queue_of x → Side e x y
  Finishes : is_of_queue e ≡ true → queue_of y ≡ with_finished (queue_of x) → Side e x y

-- a thread with the same queue, but for the finished mark
side_of : (e : Event) (x y : ThreadModel) (b : Bool) → x.finished ≡ false → is_of_queue e ≡ b → y.held ≡ x.held → y.released ≡ x.released → y.finished ≡ (x.finished || b) → Side e x y
side_of e x y true open_queue is held released finished =
    Finishes is (λ k. record {
      held = held k;
      finished = (finished ∙ ap (λ f. f || true) open_queue) k;
      released = released k;
    })
side_of e x y false open_queue is held released finished =
    Same (λ k. record {
      held = held k;
      finished = (finished ∙ (ap (λ f. f || false) open_queue ∙ sym open_queue)) k;
      released = released k;
    })

with_end_side : (e : Event) (x y : ThreadModel) → x.finished ≡ false → y.held ≡ x.held → y.released ≡ x.released → y.finished ≡ x.finished → Side e x (with_end e y)
with_end_side e x y open_queue held released finished =
    side_of e x (with_end e y) (is_of_queue e) open_queue refl held released (ap (λ f. f || is_of_queue e) finished)

after_side : (e : Event) (o : Outcome) (state : List ℕ) (x y : ThreadModel) → x.finished ≡ false → y.held ≡ x.held → y.released ≡ x.released → y.finished ≡ x.finished →
    Side e x (thread_after e o state y)
after_side e (outcomes.Next task) state x y open_queue held released finished = Same (λ k. record { held = held k; finished = finished k; released = released k })
after_side e outcomes.Done state x y open_queue held released finished =
    with_end_side e x (record y { state = state; served = y.served + 1 }) open_queue held released finished
after_side e (outcomes.Trap code) state x y open_queue held released finished =
    with_end_side e x (record y { trapped = y.trapped + 1 }) open_queue held released finished

first_held : (time : ℕ) (x : ThreadModel) → ((with_first time x).held ≡ x.held) × ((with_first time x).released ≡ x.released) × ((with_first time x).finished ≡ x.finished)
first_held time x = by_test (is_running x)
  where
    by_test : (b : Bool) → let y : ThreadModel = if b then x else record x { first = time } in (y.held ≡ x.held) × (y.released ≡ x.released) × (y.finished ≡ x.finished)
    by_test true = (refl, refl, refl)
    by_test false = (refl, refl, refl)

-- what a commit makes of the threads and sources
pub record Commits (program : Program) (m : Model) (t : ℕ) (e : Event) (next : Model) : Type 0 where
  pub after : ThreadModel
  pub threads : next.threads ≡ set m.threads t after
  pub sources : next.sources ≡ m.sources
  pub side : Side e (thread_of m t) after

ended_commits : (program : Program) (m : Model) (t time : ℕ) (e : Event) (running : Bool) (end : TaskEnd) → (thread_of m t).finished ≡ false →
    Commits program m t e (record (ended t e time end (consumed running e m)) { commits = m.commits + 1; scan = None })
ended_commits program m t time e running end open_queue = by_running running
  where
    by_running : (b : Bool) → Commits program m t e (record (ended t e time end (consumed b e m)) { commits = m.commits + 1; scan = None })
    by_running true = let f = first_held time (thread_of m t) in record {
      after = thread_after e end.outcome end.state (with_first time (thread_of m t));
      threads = refl;
      sources = refl;
      side = after_side e end.outcome end.state (thread_of m t) (with_first time (thread_of m t)) open_queue f.0 f.1 f.2;
    }
    by_running false = let f = first_held time (thread_of m t) in record {
      after = thread_after e end.outcome end.state (with_first time (thread_of m t));
      threads = refl;
      sources = refl;
      side = after_side e end.outcome end.state (thread_of m t) (with_first time (thread_of m t)) open_queue f.0 f.1 f.2;
    }

pub commits_side : (program : Program) (m : Model) (t time : ℕ) (e : Event) → (thread_of m t).finished ≡ false → Commits program m t e (committed program t e time m)
commits_side program m t time e open_queue = by_late (is_expired program m t time)
  where
    end : TaskEnd
    end = end_at program m t e time

    by_late : (late : Bool) →
        Commits program m t e (record (if late then expired t e m else ended t e time end (consumed (is_running (thread_of m t)) e m)) { commits = m.commits + 1; scan = None })
    by_late true = record {
      after = expired_after e (thread_of m t);
      threads = refl;
      sources = refl;
      side = with_end_side e (thread_of m t) (record (thread_of m t) { expired = (thread_of m t).expired + 1 }) open_queue refl refl refl;
    }
    by_late false = ended_commits program m t time e (is_running (thread_of m t)) end open_queue

-- a commit that leaves the queue leaves all of them, and the sources
pub sides_same : (m next : Model) (t : ℕ) (y : ThreadModel) → t < length m.threads → next.threads ≡ set m.threads t y → next.sources ≡ m.sources →
    queue_of y ≡ queue_of (thread_of m t) → sides_of next ≡ sides_of m
sides_same m next t y lt threads sources_are same = λ k. record {
  queue = fun_ext each k;
  source = λ i. source_in (get_or (sources_are k) i no_source);
}
  where
    each : (u : ℕ) → queue_of (thread_of next u) ≡ queue_of (thread_of m u)
    each u =
        ap (λ (l : List ThreadModel). queue_of (get_or l u no_thread)) threads
        ∙ elim (cases_eq u t) [
          | inl is ↦ subst (λ v. queue_of (get_or (set m.threads t y) v no_thread) ≡ queue_of (thread_of m v)) (sym is)
              (ap queue_of (get_or-set_same m.threads t y no_thread lt) ∙ same)
          | inr ne ↦ ap queue_of (get_or-set_other m.threads t u y no_thread ne)
        ]

-- the commit of a pick is that of its pending event
pub commit_picked : (program : Program) (words : Memory) (m : Model) (pick : Pick) → IsPicked program words m pick →
    commit program pick.thread.0 m ≡ committed program pick.thread.0 pick.event pick.time m
commit_picked program words m pick p =
    let t : ℕ = pick.thread.0 in
    let made : Option ScanModel → Option Event → Model =
    λ s q. elim s [ None ↦ m | Some scan ↦ elim q [ None ↦ m | Some e ↦ committed program t e scan.time m ] ]
    in ap (λ s. made s (pending program m t)) p.scanned
    ∙ (ap (λ q. made (Some p.scan) q) p.pending_is ∙ ap (λ time. committed program t pick.event time m) (sym p.time))
