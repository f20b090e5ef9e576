-- The counts that commits raise have room for the entries to come.
use Rattle.never_cut.proofs.Common.{◌≡◌, ℕ, ◌+◌, ◌-◌, ◌^◌, ◌<◌, ◌≤◌, Bool, true, false, length, List, drop, get_or, set, Option, Some, None, refl, sym, ap, subst, arith, inl, inr, ◌||◌, if◌then◌else◌, get_or-set_other, cases_eq, cases_lt, get_or-set_at, set_past, Event, Origin, Entry, Push, Refuse, Skip, Tick, Scan, Look, Commit, Release, Outcome, Program, TaskEnd, ThreadDef, source_thread, no_thread_def, no_pipe_def, Model, PipeModel, ScanModel, ThreadModel, thread_of, no_thread, no_pipe, is_running, open_model, open_thread, open_pipe, pending, consumed, end_at, ended, expired, expired_after, is_expired, is_of_queue, taken_from, thread_after, with_first, Readings, Legal, effect, fed_by, looked, next_event, pushed, released, flag, HasRoomFor, Lasts, LastsThread, is_scanning}
use Rattle.never_cut.specs.Commit.{committed}
use Rattle.std.proofs.Math.ListN.{get_or-map}
use Rattle.ink_base.specs.declared.event.Origin.TheVariants as origins
use Rattle.task_isa.specs.declared.outcome.Outcome.TheVariants as outcomes
use Rattle.never_cut.proofs.Bounds.{each_after_set}
use Rattle.never_cut.proofs.SoundParts.{taken_in}
use Rattle.never_cut.proofs.SoundPipes.{sent_taken}

-- a flag counts one at most
flag_or : (a b : Bool) → flag (a || b) ≤ flag a + 1
flag_or true b = omega arith
flag_or false true = omega arith
flag_or false false = omega arith

-- a thread at an entry that raises none of its counts
same_thread : (left : ℕ) (old new : Bool) (x : ThreadModel) → flag new ≤ flag old + 1 → LastsThread (left + 1) old x → LastsThread left new x
same_thread left old new x le h = record {
  ended = let r = h.ended in omega arith;
  served = let r = h.served in omega arith;
  trapped = let r = h.trapped in omega arith;
  expired = let r = h.expired in omega arith;
}

-- and at a commit, which ends the scan and raises each of them by one at most
raised : (left : ℕ) (x y : ThreadModel) → y.released + flag y.finished ≤ x.released + flag x.finished + 1 → y.served ≤ x.served + 1 → y.trapped ≤ x.trapped + 1 → y.expired ≤ x.expired + 1 →
    LastsThread (left + 1) true x → LastsThread left false y
raised left x y ended served trapped expired h = record {
  ended = let r = h.ended in omega arith;
  served = let r = h.served in omega arith;
  trapped = let r = h.trapped in omega arith;
  expired = let r = h.expired in omega arith;
}

-- so does the end of a task,
after_thread : (left : ℕ) (x : ThreadModel) (e : Event) (outcome : Outcome) (state : List ℕ) → LastsThread (left + 1) true x → LastsThread left false (thread_after e outcome state x)
after_thread left x e (outcomes.Next task) state h = raised left x _ (omega arith) (omega arith) (omega arith) (omega arith) h
after_thread left x e outcomes.Done state h = let f = flag_or x.finished (is_of_queue e) in raised left x _ (omega arith) (omega arith) (omega arith) (omega arith) h
after_thread left x e (outcomes.Trap code) state h = let f = flag_or x.finished (is_of_queue e) in raised left x _ (omega arith) (omega arith) (omega arith) (omega arith) h

-- the end of a service,
ended_thread : (left time : ℕ) (x : ThreadModel) (e : Event) (outcome : Outcome) (state : List ℕ) → LastsThread (left + 1) true x →
    LastsThread left false (thread_after e outcome state (with_first time x))
ended_thread left time x e outcome state h = by_running (is_running x)
  where
    by_running : (b : Bool) → LastsThread left false (thread_after e outcome state (if b then x else record x { first = time }))
    by_running true = after_thread left x e outcome state h
    by_running false = after_thread left (record x { first = time }) e outcome state (record { ended = h.ended; served = h.served; trapped = h.trapped; expired = h.expired })

-- and that of an expired chain
expired_thread : (left : ℕ) (x : ThreadModel) (e : Event) → LastsThread (left + 1) true x → LastsThread left false (expired_after e x)
expired_thread left x e h = let f = flag_or x.finished (is_of_queue e) in raised left x _ (omega arith) (omega arith) (omega arith) (omega arith) h

-- a release only moves a finished event to the released ones
released_thread : (left : ℕ) (b : Bool) (x : ThreadModel) → x.finished ≡ true → LastsThread (left + 1) b x → LastsThread left b (released x)
released_thread left b x is h = record {
  ended = let r = h.ended in let f : flag x.finished ≡ 1 = ap flag is in omega arith;
  served = let r = h.served in omega arith;
  trapped = let r = h.trapped in omega arith;
  expired = let r = h.expired in omega arith;
}

-- a service takes one item at most, and a send none
taken_raise : (o : Origin) (pipes : List PipeModel) (q : ℕ) → taken_in (taken_from o pipes) q ≤ taken_in pipes q + 1
taken_raise (origins.Source source count) pipes q = omega arith
taken_raise (origins.Timer timer deadline) pipes q = omega arith
taken_raise (origins.Pipe pipe item) pipes q =
    let p : PipeModel = get_or pipes pipe.0 no_pipe in
    let new : PipeModel = record { items = drop 1 p.items; taken = p.taken + 1 } in
    elim (cases_eq q pipe.0) [
      | inl same ↦
          let was : taken_in pipes q ≡ p.taken = ap (taken_in pipes) same in
          elim (cases_lt pipe.0 (length pipes)) [
            | inl within ↦ let here = ap (λ (x : PipeModel). x.taken) (get_or-set_at pipes pipe.0 q new no_pipe same within) in omega (arith, here, was)
            | inr past ↦ let here = ap (λ (l : List PipeModel). taken_in l q) (set_past pipes pipe.0 new past) in omega (arith, here)
          ]
      | inr other ↦ let here = ap (λ (x : PipeModel). x.taken) (get_or-set_other pipes pipe.0 q new no_pipe other) in omega (arith, here)
    ]

-- a state in which nothing that is counted has changed
same_lasts : (left : ℕ) (m next : Model) → next.commits ≡ m.commits → next.threads ≡ m.threads → next.pipes ≡ m.pipes → flag (is_scanning next) ≤ flag (is_scanning m) + 1 →
    Lasts (left + 1) m → Lasts left next
same_lasts left m next commits threads pipes le h = record {
  commits = let r = h.commits in omega (arith, r, commits);
  threads = λ t. subst (λ (l : List ThreadModel). LastsThread left (is_scanning next) (get_or l t no_thread)) (sym threads) (same_thread left (is_scanning m) (is_scanning next) (thread_of m t) le (h.threads t));
  taken = λ q. let r = h.taken q in let same = ap (λ (l : List PipeModel). taken_in l q) pipes in omega (arith, r, same);
}

-- one in which one thread has changed
thread_lasts : (left : ℕ) (m next : Model) (t : ℕ) (x : ThreadModel) → next.commits ≡ m.commits → next.threads ≡ set m.threads t x → next.pipes ≡ m.pipes → is_scanning next ≡ is_scanning m →
    LastsThread left (is_scanning m) x → Lasts (left + 1) m → Lasts left next
thread_lasts left m next t x commits threads pipes scanning new h = record {
  commits = let r = h.commits in omega (arith, r, commits, ap flag scanning);
  threads = λ u. subst (λ (z : Bool × List ThreadModel). LastsThread left z.0 (get_or z.1 u no_thread)) (sym (λ k. (scanning k, threads k)))
      (each_after_set (LastsThread left (is_scanning m)) m.threads t x no_thread (λ k. same_thread left (is_scanning m) (is_scanning m) (thread_of m k) (omega arith) (h.threads k)) new u);
  taken = λ q. let r = h.taken q in let same = ap (λ (l : List PipeModel). taken_in l q) pipes in omega (arith, r, same, ap flag scanning);
}

-- and the commit of a thread
made_lasts : (left : ℕ) (m next : Model) (t : ℕ) (x : ThreadModel) → is_scanning m ≡ true → is_scanning next ≡ false → next.commits ≡ m.commits + 1 → next.threads ≡ set m.threads t x →
    ((q : ℕ) → taken_in next.pipes q ≤ taken_in m.pipes q + 1) → LastsThread left false x → Lasts (left + 1) m → Lasts left next
made_lasts left m next t x scanning over commits threads taken new h = record {
  commits = let r = h.commits in omega (arith, r, commits, ap flag scanning, ap flag over);
  threads = λ u. subst (λ (z : Bool × List ThreadModel). LastsThread left z.0 (get_or z.1 u no_thread)) (sym (λ k. (over k, threads k)))
      (each_after_set (LastsThread left false) m.threads t x no_thread (λ k. same_thread left (is_scanning m) false (thread_of m k) (omega arith) (h.threads k)) new u);
  taken = λ q. let r = h.taken q in let more = taken q in omega (arith, r, more, ap flag scanning, ap flag over);
}

-- a commit takes up the room of two entries in a count that it raises: that of the entry, and that of the scan
commit_lasts : (program : Program) (left : ℕ) (m : Model) (t : ℕ) (e : Event) (time : ℕ) → is_scanning m ≡ true → Lasts (left + 1) m → Lasts left (committed program t e time m)
commit_lasts program left m t e time scanning h = by_expired (is_expired program m t time)
  where
    thread : LastsThread (left + 1) true (thread_of m t)
    thread = subst (λ (b : Bool). LastsThread (left + 1) b (thread_of m t)) scanning (h.threads t)

    end : TaskEnd
    end = end_at program m t e time

    by_running : (b : Bool) → Lasts left (record (ended t e time (end_at program m t e time) (consumed b e m)) { commits = m.commits + 1; scan = None })
    by_running true =
        made_lasts left m _ t (thread_after e end.outcome end.state (with_first time (thread_of m t))) scanning refl refl refl
        (λ q. let same = sent_taken end.sends m.pipes q in omega arith) (ended_thread left time (thread_of m t) e end.outcome end.state thread) h
    by_running false =
        made_lasts left m _ t (thread_after e end.outcome end.state (with_first time (thread_of m t))) scanning refl refl refl
        (λ q. let same = sent_taken end.sends (taken_from e.origin m.pipes) q in let more = taken_raise e.origin m.pipes q in omega arith)
        (ended_thread left time (thread_of m t) e end.outcome end.state thread) h

    by_expired : (b : Bool) →
        Lasts left (record (if b then expired t e m else ended t e time (end_at program m t e time) (consumed (is_running (thread_of m t)) e m)) { commits = m.commits + 1; scan = None })
    by_expired true =
        made_lasts left m _ t (expired_after e (thread_of m t)) scanning refl refl refl (λ q. omega arith) (expired_thread left (thread_of m t) e thread) h
    by_expired false = by_running (is_running (thread_of m t))

-- one legal entry takes up the room of one
pub lasts_step : (program : Program) (readings : Readings) (left : ℕ) (m : Model) (e : Entry) → Lasts (left + 1) m → Legal program readings m e → Lasts left (effect program readings m e)
lasts_step program readings left m (Push i) h legal =
    let x : ThreadModel = pushed (next_event readings m i.0) (fed_by program m i.0) in
    let old = h.threads (source_thread program i.0) in
    thread_lasts left m _ (source_thread program i.0) x refl refl refl refl
    (record {
      ended = let r = old.ended in omega arith;
      served = let r = old.served in omega arith;
      trapped = let r = old.trapped in omega arith;
      expired = let r = old.expired in omega arith;
    }) h
lasts_step program readings left m (Refuse i) h legal = same_lasts left m _ refl refl refl (omega arith) h
lasts_step program readings left m (Skip i) h legal = same_lasts left m _ refl refl refl (omega arith) h
lasts_step program readings left m (Tick by) h legal = same_lasts left m _ refl refl refl (omega arith) h
lasts_step program readings left m Scan h legal = same_lasts left m _ refl refl refl (omega arith) h
lasts_step program readings left m (Look t) h legal = by_scan m.scan refl
  where
    by_scan : (o : Option ScanModel) → m.scan ≡ o → Lasts left (record m { scan = elim o [ None ↦ None | Some scan ↦ Some (looked t scan) ] })
    by_scan None is = same_lasts left m _ refl refl refl (omega arith) h
    by_scan (Some old) is = same_lasts left m _ refl refl refl (omega arith) h
lasts_step program readings left m (Commit t) h legal = by_scan m.scan refl
  where
    by_pending : (scan : ScanModel) → m.scan ≡ Some scan → (q : Option Event) → Lasts left (elim q [ None ↦ m | Some e ↦ committed program t.0 e scan.time m ])
    by_pending scan is None = same_lasts left m m refl refl refl (omega arith) h
    by_pending scan is (Some e) = commit_lasts program left m t.0 e scan.time (ap (λ (o : Option ScanModel). elim o [ Some scan ↦ true | None ↦ false ]) is) h

    by_scan : (o : Option ScanModel) → m.scan ≡ o →
        Lasts left (elim o [ None ↦ m | Some scan ↦ elim (pending program m t.0) [ None ↦ m | Some e ↦ committed program t.0 e scan.time m ] ])
    by_scan None is = same_lasts left m m refl refl refl (omega arith) h
    by_scan (Some scan) is = by_pending scan is (pending program m t.0)
lasts_step program readings left m (Release t) h legal =
    thread_lasts left m _ t.0 (released (thread_of m t.0)) refl refl refl refl (released_thread left (is_scanning m) (thread_of m t.0) legal.1 (h.threads t.0)) h

-- a thread with room for more has room for fewer
fewer_thread : (left less : ℕ) (b : Bool) (x : ThreadModel) → less ≤ left → LastsThread left b x → LastsThread less b x
fewer_thread left less b x le h = record {
  ended = let r = h.ended in omega arith;
  served = let r = h.served in omega arith;
  trapped = let r = h.trapped in omega arith;
  expired = let r = h.expired in omega arith;
}

-- room for more is room for fewer
pub lasts_less : (left less : ℕ) (m : Model) → less ≤ left → Lasts left m → Lasts less m
lasts_less left less m le h = record {
  commits = let r = h.commits in omega arith;
  threads = λ t. fewer_thread left less (is_scanning m) (thread_of m t) le (h.threads t);
  taken = λ q. let r = h.taken q in omega arith;
}

-- a thread of the first image counts nothing yet
open_thread_lasts : (left : ℕ) (d : ThreadDef) → left < 2 ^ 33 - 2 → LastsThread left false (open_thread d)
open_thread_lasts left d lt = record { ended = omega arith; served = omega arith; trapped = omega arith; expired = omega arith }

-- the first state has room for all the entries that a number of 32 bits counts
pub open_lasts : (program : Program) (left : ℕ) → left < 2 ^ 33 - 2 → Lasts left (open_model program)
open_lasts program left lt = record {
  commits = omega arith;
  threads = λ t. subst (LastsThread left false) (sym (get_or-map open_thread program.threads t no_thread_def)) (open_thread_lasts left (get_or program.threads t no_thread_def) lt);
  taken = λ q. subst (λ (p : PipeModel). HasRoomFor left false p.taken) (sym (get_or-map open_pipe program.pipes q no_pipe_def)) (omega arith);
}
