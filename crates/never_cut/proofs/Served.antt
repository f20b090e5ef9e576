-- A thread's commits finish the events that were put into its queue, each once and in order.
use Rattle.never_cut.proofs.Common.{◌≡◌, ◌≢◌, inl, inr, ℕ, ◌<◌, Bool, true, false, List, [], ◌∷◌, ◌++◌, length, get_or, Option, Some, None, refl, sym, ap, ◌∙◌, subst, append_assoc, arith, eq-eqb, ne_eqb, append-nil, get_or-set_other, ForSome, cases_eq, get_or-set_at, ThreadId, Event, Origin, TaskId, Entry, Push, Refuse, Skip, Tick, Scan, Look, Commit, Release, Program, source_thread, Model, ScanModel, ThreadModel, thread_of, unfinished, no_thread, commit, Readings, Legal, IsCalm, effect, looked, next_event, fed_by, pushed, released, after, IsLegal, first_of, IsSound, IsServed, event_at, gathered, queued_by, finished_by, EachEventOnce}
use Rattle.ink_base.specs.declared.event.Origin.TheVariants as origins
use Rattle.never_cut.proofs.Threads.{kept-set}
use Rattle.never_cut.proofs.Commits.{Serves, serves, thread_committed, committed-own, commit-other, commit-count}
use Rattle.never_cut.proofs.ThreadStates.{effect-count}
use Rattle.never_cut.proofs.Turns.{IsInTurn, IsFirstOf, Turns, pushed_turn, released_turn, unfinished-pushed, unfinished-released, committed_turns, pending_of}

-- each thread serves its queue in turn, and while a scan is there nothing is finished
pub record AreInTurn (program : Program) (m : Model) : Type 0 where
  pub count : length m.threads ≡ length program.threads
  pub threads : (t : ℕ) → t < length program.threads → IsInTurn (thread_of m t)
  pub calm : ForSome m.scan (λ scan. IsCalm program m)

-- a state in which at most one thread has changed
with_one : (program : Program) (m next : Model) (s : ℕ) (x : ThreadModel) → length next.threads ≡ length m.threads → (s < length m.threads → thread_of next s ≡ x) →
    ((u : ℕ) → u ≢ s → thread_of next u ≡ thread_of m u) → (s < length program.threads → IsInTurn x) → ForSome next.scan (λ scan. IsCalm program next) →
    AreInTurn program m → AreInTurn program next
with_one program m next s x count own others turn calm h = record {
  count = count ∙ h.count;
  threads = λ t lt. elim (cases_eq t s) [
    | inl is ↦
        let known : s < length program.threads = subst (λ k. k < length program.threads) is lt in
        subst (λ k. IsInTurn (thread_of next k)) (sym is) (subst IsInTurn (sym (own (rw h.count known))) (turn known))
    | inr apart ↦ subst IsInTurn (sym (others t apart)) (h.threads t lt)
  ];
  calm = calm;
}

-- and one in which none has
with_none : (program : Program) (m next : Model) → next.threads ≡ m.threads → ForSome next.scan (λ scan. IsCalm program next) → AreInTurn program m → AreInTurn program next
with_none program m next same calm h = record {
  count = ap length same ∙ h.count;
  threads = λ t lt. subst (λ xs. IsInTurn (get_or xs t no_thread)) (sym same) (h.threads t lt);
  calm = calm;
}

looked_calm : (Q : Type 0) (t : ThreadId) (o : Option ScanModel) → ForSome o (λ scan. Q) →
    ForSome (elim o as (λ _. Option ScanModel) [ None ↦ None | Some scan ↦ Some (looked t scan) ]) (λ scan. Q)
looked_calm Q t None calm scan is = absurd (cc)
looked_calm Q t (Some found) calm scan is = calm found refl

-- what a legal commit serves is the first event of the queue, where it is of the queue
first_served : (program : Program) (m : Model) (t : ℕ) (s : Serves program m t) → t < length program.threads → AreInTurn program m → IsFirstOf (thread_of m t).held s.event
first_served program m t s lt h = pending_of program m t s.scan s.event (h.threads t lt) (h.calm s.scan s.scanned t lt) s.scanned s.waits

-- each legal entry leaves the threads in turn
turn_step : (program : Program) (readings : Readings) (m : Model) (e : Entry) → AreInTurn program m → Legal program readings m e → AreInTurn program (effect program readings m e)
turn_step program readings m (Push i) h legal =
    let x : ThreadModel = pushed (next_event readings m i.0) (fed_by program m i.0) in
    with_one program m (effect program readings m (Push i)) (source_thread program i.0) x (effect-count program readings m (Push i))
    (λ lt. get_or-set_at m.threads (source_thread program i.0) (source_thread program i.0) x no_thread refl lt)
    (λ u apart. get_or-set_other m.threads (source_thread program i.0) u x no_thread apart)
    (λ known. pushed_turn (next_event readings m i.0) (fed_by program m i.0) (h.threads (source_thread program i.0) known))
    (λ scan is u known. kept-set (λ (y : ThreadModel). y.finished) m.threads (source_thread program i.0) u x refl ∙ h.calm scan is u known)
    h
turn_step program readings m (Refuse i) h legal = with_none program m (effect program readings m (Refuse i)) refl h.calm h
turn_step program readings m (Skip i) h legal = with_none program m (effect program readings m (Skip i)) refl h.calm h
turn_step program readings m (Tick by) h legal = with_none program m (effect program readings m (Tick by)) refl h.calm h
turn_step program readings m Scan h legal = with_none program m (effect program readings m Scan) refl (λ scan is. legal) h
turn_step program readings m (Look t) h legal = with_none program m (effect program readings m (Look t)) refl (looked_calm (IsCalm program m) t m.scan h.calm) h
turn_step program readings m (Commit t) h legal =
    let s = serves program readings m t legal in
    with_one program m (commit program t.0 m) t.0 (thread_committed program t.0 s.event s.scan.time m) (commit-count program t.0 m)
    (λ lt. ap (λ next. thread_of next t.0) s.makes ∙ committed-own program t.0 s.event s.scan.time m lt)
    (λ u apart. commit-other program t.0 u m apart)
    (λ known. (committed_turns program t.0 s.event s.scan.time m (h.calm s.scan s.scanned t.0 known) (first_served program m t.0 s known h)).0)
    (λ scan is. absurd (let clash : None ≡ Some scan = sym (ap (λ (next : Model). next.scan) s.makes) ∙ is in cc))
    h
turn_step program readings m (Release t) h legal =
    let x : ThreadModel = released (thread_of m t.0) in
    with_one program m (effect program readings m (Release t)) t.0 x (effect-count program readings m (Release t))
    (λ lt. get_or-set_at m.threads t.0 t.0 x no_thread refl lt)
    (λ u apart. get_or-set_other m.threads t.0 u x no_thread apart)
    (λ known. released_turn (thread_of m t.0) legal.1 (h.threads t.0 known))
    (λ scan is. absurd (let clash : true ≡ false = sym legal.1 ∙ h.calm scan is t.0 legal.0 in cc))
    h

-- what was unfinished and what an entry puts into the queue is what it finishes and what is unfinished then
Balances : Program → Readings → ℕ → Model → Entry → Type 0
Balances program readings t m e =
    unfinished (thread_of m t) ++ queued_by program readings t e m ≡ finished_by program t e m ++ unfinished (thread_of (effect program readings m e) t)

own_commit : (program : Program) (readings : Readings) (m : Model) (t : ThreadId) → t.0 < length program.threads → AreInTurn program m → Legal program readings m (Commit t) →
    Balances program readings t.0 m (Commit t)
unfolding Balances
own_commit program readings m t lt h legal =
    let s = serves program readings m t legal in
    let x : ThreadModel = thread_committed program t.0 s.event s.scan.time m in
    let own : thread_of (commit program t.0 m) t.0 ≡ x = ap (λ next. thread_of next t.0) s.makes ∙ committed-own program t.0 s.event s.scan.time m (rw h.count lt) in
    let turns : Turns s.event (thread_of m t.0) x = committed_turns program t.0 s.event s.scan.time m (h.calm s.scan s.scanned t.0 lt) (first_served program m t.0 s lt h) in
    append-nil (unfinished (thread_of m t.0)) ∙ rw (eq-eqb t.0 t.0 refl, own, s.waits) turns.1

balance_step : (program : Program) (readings : Readings) (t : ℕ) (m : Model) (e : Entry) → t < length program.threads → AreInTurn program m → Legal program readings m e →
    Balances program readings t m e
unfolding Balances
balance_step program readings t m (Push i) lt h legal =
    let x : ThreadModel = pushed (next_event readings m i.0) (fed_by program m i.0) in
    elim (cases_eq (source_thread program i.0) t) [
      | inl is ↦
          let own : thread_of (effect program readings m (Push i)) t ≡ pushed (next_event readings m i.0) (thread_of m t) =
          get_or-set_at m.threads (source_thread program i.0) t x no_thread (sym is) (rw (is, h.count) lt) ∙ ap (λ k. pushed (next_event readings m i.0) (thread_of m k)) is in
          rw (eq-eqb (source_thread program i.0) t is) (sym (ap unfinished own ∙ unfinished-pushed (next_event readings m i.0) (thread_of m t) (h.threads t lt)))
      | inr apart ↦
          rw (ne_eqb (source_thread program i.0) t apart)
          (append-nil (unfinished (thread_of m t)) ∙ ap unfinished (sym (get_or-set_other m.threads (source_thread program i.0) t x no_thread (λ is. apart (sym is)))))
    ]
balance_step program readings t m (Refuse i) lt h legal = append-nil (unfinished (thread_of m t))
balance_step program readings t m (Skip i) lt h legal = append-nil (unfinished (thread_of m t))
balance_step program readings t m (Tick by) lt h legal = append-nil (unfinished (thread_of m t))
balance_step program readings t m Scan lt h legal = append-nil (unfinished (thread_of m t))
balance_step program readings t m (Look u) lt h legal = append-nil (unfinished (thread_of m t))
balance_step program readings t m (Commit u) lt h legal =
    elim (cases_eq u.0 t) [
      | inl same ↦ subst (λ k. Balances program readings k m (Commit u)) same (own_commit program readings m u legal.0 h legal)
      | inr apart ↦ rw (ne_eqb u.0 t apart) (append-nil (unfinished (thread_of m t)) ∙ ap unfinished (sym (commit-other program u.0 t m (λ is. apart (sym is)))))
    ]
balance_step program readings t m (Release u) lt h legal =
    append-nil (unfinished (thread_of m t)) ∙ sym (kept-set unfinished m.threads u.0 t (released (thread_of m u.0)) (unfinished-released (thread_of m u.0) legal.1))

balances : (program : Program) (readings : Readings) (t : ℕ) (m : Model) (entries : List Entry) → t < length program.threads → AreInTurn program m → IsLegal program readings m entries →
    unfinished (thread_of m t) ++ gathered (queued_by program readings t) program readings m entries
    ≡ gathered (finished_by program t) program readings m entries ++ unfinished (thread_of (after program readings m entries) t)
unfolding Balances
balances program readings t m [] lt h legal = append-nil (unfinished (thread_of m t))
balances program readings t m (e ∷ entries) lt h legal =
    let next : Model = effect program readings m e in
    let queued : List Event = gathered (queued_by program readings t) program readings (effect program readings m e) entries in
    let done : List Event = gathered (finished_by program t) program readings (effect program readings m e) entries in
    let last : List Event = unfinished (thread_of (after program readings (effect program readings m e) entries) t) in
    let here : unfinished (thread_of m t) ++ queued_by program readings t e m ≡ finished_by program t e m ++ unfinished (thread_of next t) = balance_step program readings t m e lt h legal.0 in
    let rest : unfinished (thread_of next t) ++ queued ≡ done ++ last =
    balances program readings t (effect program readings m e) entries lt (turn_step program readings m e h legal.0) legal.1 in
    sym (append_assoc (unfinished (thread_of m t)) (queued_by program readings t e m) queued)
    ∙ (ap (λ xs. xs ++ queued) here
    ∙ (append_assoc (finished_by program t e m) (unfinished (thread_of next t)) queued
    ∙ (ap (λ xs. finished_by program t e m ++ xs) rest
    ∙ sym (append_assoc (finished_by program t e m) done last))))

first_event : (held : List Event) (e : Event) → 0 < length held → event_at held 0 ≡ e → first_of held ≡ Some e
first_event [] e some is = absurd (omega arith)
first_event (x ∷ held) e some is = ap Some is

served_turn : (program : Program) (m : Model) (t value : ℕ) (o : Origin) → IsServed program m t (record { origin = o; value = value }) →
    IsFirstOf (thread_of m t).held (record { origin = o; value = value })
served_turn program m t value (origins.Source source count) h is = first_event (thread_of m t).held _ h.0 h.1
served_turn program m t value (origins.Pipe pipe item) h is = absurd (let clash : false ≡ true = is in cc)
served_turn program m t value (origins.Timer timer deadline) h is = absurd (let clash : false ≡ true = is in cc)

-- a sound state is one in which each thread serves its queue in turn
pub sound_turns : (program : Program) (readings : Readings) (m : Model) → IsSound program readings m → AreInTurn program m
sound_turns program readings m h = record {
  count = h.shape.threads;
  threads = λ t lt. let x = h.threads t lt in record {
    finished = λ is. (x.finished is).0;
    clear = λ runs. by_running t lt (thread_of m t).running refl runs;
    chain = λ runs e is. by_chain t lt e is (thread_of m t).running refl runs;
  };
  calm = h.calm;
}
  where
    by_running : (t : ℕ) → t < length program.threads → (running : Option TaskId) → (thread_of m t).running ≡ running →
        ◌≡◌ {A = Bool} (elim running as (λ _. Bool) [ Some task ↦ true | None ↦ false ]) true → (thread_of m t).finished ≡ false
    by_running t lt None is runs = absurd (let clash : false ≡ true = runs in cc)
    by_running t lt (Some task) is runs = ((h.threads t lt).chain task is).unfinished

    by_chain : (t : ℕ) → t < length program.threads → (e : Event) → (thread_of m t).event ≡ Some e → (running : Option TaskId) → (thread_of m t).running ≡ running →
        ◌≡◌ {A = Bool} (elim running as (λ _. Bool) [ Some task ↦ true | None ↦ false ]) true → IsFirstOf (thread_of m t).held e
    by_chain t lt e is None idle runs = absurd (let clash : false ≡ true = runs in cc)
    by_chain t lt e is (Some task) on runs =
        let c = (h.threads t lt).chain task on in
        let both : Some c.event ≡ Some e = sym c.is ∙ is in
        let same : c.event ≡ e = cc in
        subst (IsFirstOf (thread_of m t).held) same (served_turn program m t c.event.value c.event.origin c.served)

pub each_event_once : (program : Program) (readings : Readings) (first : Model) (journal : List Entry) → AreInTurn program first → IsLegal program readings first journal →
    EachEventOnce program readings first journal
each_event_once program readings first journal turns legal t lt = balances program readings t first journal lt turns legal
