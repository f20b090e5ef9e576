-- One legal entry more keeps a state within its bounds.
use Rattle.never_cut.proofs.Common.{◌≡◌, ℕ, ◌+◌, ◌<◌, ◌≤◌, ◌^◌, Bool, true, false, length, Option, Some, None, refl, ◌∙◌, subst, arith, if◌then◌else◌, length-set, ThreadId, Event, Entry, Push, Refuse, Skip, Tick, Scan, Look, Commit, Release, Instr, Next, Program, Task, TaskEnd, EndsBelow, NamesBelow, task_of_below, source_thread, task_def, instr_at, first_task, IsAccepted, IsRightInstr, Model, ScanModel, SourceModel, ThreadModel, thread_of, source_of, no_thread, no_source, is_running, with_thread, with_source, pending, commit, consumed, end_at, ended, expired, expired_after, is_expired, moved_on, start_at, taken_from, task_at, thread_after, with_first, Readings, Legal, effect, fed_by, looked, next_event, pushed, released, with_accepted, with_refused, with_skipped, IsWithin, IsWithinSource, IsWithinThread}
use Rattle.never_cut.specs.Commit.{committed}
use Rattle.never_cut.proofs.Bounds.{each_after_set, ended_thread, expired_thread, later_pipes, later_thread, length-moved_on, length-taken_from, length-with_sends, length-with_timers, pushed_thread, released_thread, sent_pipes, taken_pipes, wider_pipes, wider_thread}

names_below : (program : Program) (task : Task) (instr : Instr) → IsRightInstr program task instr → NamesBelow (length program.tasks) instr
names_below program task (Next i) right = right.0
names_below program task _ right = tt

-- a running task, and the first task of a thread, are there
task_below : (program : Program) (n : ℕ) (m : Model) (t : ℕ) → IsAccepted program → IsWithin program n m → t < length program.threads →
    task_at program m t < length program.tasks
task_below program n m t accepted within known = by_running (thread_of m t).running (within.threads t).running
  where
    by_running : (running : Option Rattle.ink_base.specs.declared.ids.TaskId.TaskId) → ((x : Rattle.ink_base.specs.declared.ids.TaskId.TaskId) → running ≡ Some x → x.0 < length program.tasks) →
        elim running as (λ _. ℕ) [ Some task ↦ task.0 | None ↦ first_task program t ] < length program.tasks
    by_running (Some task) each = each task refl
    by_running None each = accepted.served t known

end_below : (program : Program) (n : ℕ) (m : Model) (t : ℕ) (e : Event) (time : ℕ) → IsAccepted program → IsWithin program n m → t < length program.threads →
    EndsBelow (length program.tasks) (end_at program m t e time).outcome
end_below program n m t e time accepted within known =
    let x : ℕ = task_at program m t in
    let there : x < length program.tasks = task_below program n m t accepted within known in
    task_of_below (length program.tasks) (task_def program x).code (task_def program x).limit (start_at program m t e time)
    (λ k inside. names_below program (task_def program x) (instr_at (task_def program x) k) ((accepted.tasks x there).instrs k inside))

wider_source : (n k : ℕ) (s : SourceModel) → n ≤ k → IsWithinSource n s → IsWithinSource k s
wider_source n k s more within = record { next = let r = within.next in omega arith; accepted = let r = within.accepted in omega arith }

later_source : (n : ℕ) (s : SourceModel) → IsWithinSource n s → IsWithinSource (n + 1) s
later_source n s within = wider_source n (n + 1) s (omega arith) within

-- a wider bound
pub wider : (program : Program) (n k : ℕ) (m : Model) → n ≤ k → IsWithin program n m → IsWithin program k m
wider program n k m more within =
    record {
      parts = within.parts;
      clock = within.clock;
      scan = within.scan;
      commits = let r = within.commits in omega arith;
      threads = λ t. wider_thread program n k (thread_of m t) more (within.threads t);
      pipes = wider_pipes n k m.pipes more within.pipes;
      sources = λ i. wider_source n k (source_of m i) more (within.sources i);
    }

later : (program : Program) (n : ℕ) (m : Model) → IsWithin program n m → IsWithin program (n + 1) m
later program n m within = wider program n (n + 1) m (omega arith) within

-- with another thread or source in one's place
with_thread_within : (program : Program) (n : ℕ) (m : Model) (t : ℕ) (x : ThreadModel) → IsWithin program n m → IsWithinThread program n x →
    IsWithin program n (with_thread m t x)
with_thread_within program n m t x within here =
    record {
      parts = record { threads = length-set m.threads t x ∙ within.parts.threads; pipes = within.parts.pipes; timers = within.parts.timers; sources = within.parts.sources };
      clock = within.clock;
      scan = within.scan;
      commits = within.commits;
      threads = each_after_set (IsWithinThread program n) m.threads t x no_thread within.threads here;
      pipes = within.pipes;
      sources = within.sources;
    }

with_source_within : (program : Program) (n : ℕ) (m : Model) (i : ℕ) (s : SourceModel) → IsWithin program n m → IsWithinSource n s →
    IsWithin program n (with_source m i s)
with_source_within program n m i s within here =
    record {
      parts = record { threads = within.parts.threads; pipes = within.parts.pipes; timers = within.parts.timers; sources = length-set m.sources i s ∙ within.parts.sources };
      clock = within.clock;
      scan = within.scan;
      commits = within.commits;
      threads = within.threads;
      pipes = within.pipes;
      sources = each_after_set (IsWithinSource n) m.sources i s no_source within.sources here;
    }

looked_within : (thread : ThreadId) (scan : Option ScanModel) → ((x : ScanModel) → scan ≡ Some x → x.time < 2 ^ 47) →
    (x : ScanModel) → ◌≡◌ {A = Option ScanModel} (elim scan as (λ _. Option ScanModel) [ None ↦ None | Some found ↦ Some (looked thread found) ]) (Some x) → x.time < 2 ^ 47
looked_within thread None each x is = absurd (cc)
looked_within thread (Some found) each x is =
    let same : looked thread found ≡ x = cc in
    subst (λ (y : ScanModel). y.time < 2 ^ 47) same (each found refl)

-- the committing thread after an expired chain, and after a task
expired_within : (program : Program) (n : ℕ) (m : Model) (t : ℕ) (e : Event) → IsWithin program n m →
    IsWithin program (n + 1) (record (expired t e m) { commits = m.commits + 1; scan = None })
expired_within program n m t e within =
    record {
      parts = record { threads = length-set m.threads t (expired_after e (thread_of m t)) ∙ within.parts.threads; pipes = within.parts.pipes; timers = within.parts.timers; sources = within.parts.sources };
      clock = within.clock;
      scan = λ scan is. absurd (cc);
      commits = let r = within.commits in omega arith;
      threads =
          each_after_set (IsWithinThread program (n + 1)) m.threads t (expired_after e (thread_of m t)) no_thread
          (λ k. later_thread program n (thread_of m k) (within.threads k))
          (expired_thread program n (thread_of m t) e (within.threads t));
      pipes = later_pipes n m.pipes within.pipes;
      sources = λ i. later_source n (source_of m i) (within.sources i);
    }

ended_within : (program : Program) (n : ℕ) (m : Model) (t : ℕ) (e : Event) (time : ℕ) (end : TaskEnd) (running : Bool) →
    EndsBelow (length program.tasks) end.outcome → IsWithin program n m →
    IsWithin program (n + 1) (record (ended t e time end (consumed running e m)) { commits = m.commits + 1; scan = None })
ended_within program n m t e time end true below within =
    record {
      parts =
          record {
            threads = length-set m.threads t (thread_after e end.outcome end.state (with_first time (thread_of m t))) ∙ within.parts.threads;
            pipes = length-with_sends end.sends m.pipes ∙ within.parts.pipes;
            timers = length-with_timers end.timers m.timers ∙ within.parts.timers;
            sources = within.parts.sources;
          };
      clock = within.clock;
      scan = λ scan is. absurd (cc);
      commits = let r = within.commits in omega arith;
      threads =
          each_after_set (IsWithinThread program (n + 1)) m.threads t (thread_after e end.outcome end.state (with_first time (thread_of m t))) no_thread
          (λ k. later_thread program n (thread_of m k) (within.threads k))
          (ended_thread program n time (thread_of m t) e end.outcome end.state below (within.threads t));
      pipes = sent_pipes (n + 1) end.sends m.pipes (later_pipes n m.pipes within.pipes);
      sources = λ i. later_source n (source_of m i) (within.sources i);
    }
ended_within program n m t e time end false below within =
    record {
      parts =
          record {
            threads = length-set m.threads t (thread_after e end.outcome end.state (with_first time (thread_of m t))) ∙ within.parts.threads;
            pipes = length-with_sends end.sends (taken_from e.origin m.pipes) ∙ length-taken_from e.origin m.pipes ∙ within.parts.pipes;
            timers = length-with_timers end.timers (moved_on e.origin m.timers) ∙ length-moved_on e.origin m.timers ∙ within.parts.timers;
            sources = within.parts.sources;
          };
      clock = within.clock;
      scan = λ scan is. absurd (cc);
      commits = let r = within.commits in omega arith;
      threads =
          each_after_set (IsWithinThread program (n + 1)) m.threads t (thread_after e end.outcome end.state (with_first time (thread_of m t))) no_thread
          (λ k. later_thread program n (thread_of m k) (within.threads k))
          (ended_thread program n time (thread_of m t) e end.outcome end.state below (within.threads t));
      pipes = sent_pipes (n + 1) end.sends (taken_from e.origin m.pipes) (taken_pipes n e.origin m.pipes within.pipes);
      sources = λ i. later_source n (source_of m i) (within.sources i);
    }

committed_within : (program : Program) (n : ℕ) (m : Model) (t : ℕ) (e : Event) (time : ℕ) → IsAccepted program → IsWithin program n m → t < length program.threads →
    IsWithin program (n + 1) (committed program t e time m)
committed_within program n m t e time accepted within known = by_expired (is_expired program m t time)
  where
    task : Model
    task = ended t e time (end_at program m t e time) (consumed (is_running (thread_of m t)) e m)

    by_expired : (b : Bool) → IsWithin program (n + 1) (record (if b then expired t e m else task) { commits = m.commits + 1; scan = None })
    by_expired true = expired_within program n m t e within
    by_expired false =
        ended_within program n m t e time (end_at program m t e time) (is_running (thread_of m t)) (end_below program n m t e time accepted within known) within

commit_within : (program : Program) (n : ℕ) (m : Model) (t : ℕ) → IsAccepted program → IsWithin program n m → t < length program.threads →
    IsWithin program (n + 1) (commit program t m)
commit_within program n m t accepted within known = by_scan m.scan
  where
    by_pending : (scan : ScanModel) (e : Option Event) → IsWithin program (n + 1) (elim e as (λ _. Model) [ None ↦ m | Some found ↦ committed program t found scan.time m ])
    by_pending scan None = later program n m within
    by_pending scan (Some e) = committed_within program n m t e scan.time accepted within known

    by_scan : (scan : Option ScanModel) →
        IsWithin program (n + 1) (elim scan as (λ _. Model) [ None ↦ m | Some found ↦ elim (pending program m t) as (λ _. Model) [ None ↦ m | Some e ↦ committed program t e found.time m ] ])
    by_scan None = later program n m within
    by_scan (Some scan) = by_pending scan (pending program m t)

-- one legal entry more
pub stays_within : (program : Program) (readings : Readings) (n : ℕ) (m : Model) (e : Entry) → IsAccepted program → IsWithin program n m →
    Legal program readings m e → IsWithin program (n + 1) (effect program readings m e)
stays_within program readings n m (Push i) accepted within legal =
    let t : ℕ = source_thread program i.0 in
    let fed : IsWithin program (n + 1) (with_thread m t (pushed (next_event readings m i.0) (fed_by program m i.0))) =
    with_thread_within program (n + 1) m t (pushed (next_event readings m i.0) (fed_by program m i.0)) (later program n m within)
    (pushed_thread program n (thread_of m t) (next_event readings m i.0) refl (within.threads t)) in
    with_source_within program (n + 1) (with_thread m t (pushed (next_event readings m i.0) (fed_by program m i.0))) i.0 (with_accepted (source_of m i.0)) fed
    (record { next = let r = (within.sources i.0).next in omega arith; accepted = let r = (within.sources i.0).accepted in omega arith })
stays_within program readings n m (Refuse i) accepted within legal =
    with_source_within program (n + 1) m i.0 (with_refused (source_of m i.0)) (later program n m within)
    (record { next = let r = (within.sources i.0).next in omega arith; accepted = let r = (within.sources i.0).accepted in omega arith })
stays_within program readings n m (Skip i) accepted within legal =
    with_source_within program (n + 1) m i.0 (with_skipped (source_of m i.0)) (later program n m within)
    (record { next = let r = (within.sources i.0).next in omega arith; accepted = let r = (within.sources i.0).accepted in omega arith })
stays_within program readings n m (Tick by) accepted within legal =
    let more = later program n m within in
    record { parts = record { threads = within.parts.threads; pipes = within.parts.pipes; timers = within.parts.timers; sources = within.parts.sources }; clock = legal; scan = more.scan; commits = more.commits; threads = more.threads; pipes = more.pipes; sources = more.sources }
stays_within program readings n m Scan accepted within legal =
    let more = later program n m within in
    record {
      parts = record { threads = within.parts.threads; pipes = within.parts.pipes; timers = within.parts.timers; sources = within.parts.sources };
      clock = more.clock;
      scan = λ scan is. let same : m.clock ≡ scan.time = cc in subst (λ k. k < 2 ^ 47) same within.clock;
      commits = more.commits;
      threads = more.threads;
      pipes = more.pipes;
      sources = more.sources;
    }
stays_within program readings n m (Look t) accepted within legal =
    let more = later program n m within in
    record {
      parts = record { threads = within.parts.threads; pipes = within.parts.pipes; timers = within.parts.timers; sources = within.parts.sources };
      clock = more.clock;
      scan = looked_within t m.scan within.scan;
      commits = more.commits;
      threads = more.threads;
      pipes = more.pipes;
      sources = more.sources;
    }
stays_within program readings n m (Commit t) accepted within legal = commit_within program n m t.0 accepted within legal.0
stays_within program readings n m (Release t) accepted within legal =
    with_thread_within program (n + 1) m t.0 (released (thread_of m t.0)) (later program n m within) (released_thread program n (thread_of m t.0) (within.threads t.0))
