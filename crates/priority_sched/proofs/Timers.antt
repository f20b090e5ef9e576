-- The access that looks whether a timer is due.
use Rattle.priority_sched.proofs.Common.{◌≡◌, ℕ, ◌+◌, ◌-◌, ◌*◌, ◌<◌, true, false, length, Option, Some, None, arith, refl, ap, ◌∙◌, sym, inl, inr, subst, ◌&&◌, Bool, nat_le, lt-ltb, eqb-true, cases_eq, cases_Bool, ThreadId, Program, Memory, due_word, place_in, IsAccepted, timer_def, Model, timer_of, first_number, pending, has_item, has_due, is_due_by, due_event, timer_event, Readings, IsCalm, StandsPrivate, Background, pending-later, Idle, Timer, Picked, timer_pick, scan_at, after_timer, is_owner, KnowsIdle, KnowsTimer, AreOffBelow, ScanHolds}
use Rattle.ink_base.specs.declared.ids.TimerId.{TimerId}
use Rattle.fram_words.specs.Header as header
use Rattle.persist_timer.specs.Due.{is_due}
use Rattle.priority_sched.proofs.Nexts.{later_by, to_timer}
use Rattle.priority_sched.proofs.Searches.{search_finds, search_none}
use Rattle.priority_sched.proofs.Words.{timer_count}

-- the loaded word is that of the timer
pub timer_is : (program : Program) (words : Memory) (m : Model) (t time : ℕ) (idle : Idle) (j : ℕ) → IsAccepted program → t < length program.threads →
    StandsPrivate words program m → KnowsTimer program words m t time idle j → words (place_in t idle.commit_word (header.due j)) ≡ due_word (timer_of m j).due
timer_is program words m t time idle j accepted known private k =
    ap (λ c. words (place_in t c (header.due j))) k.idle_is.commit_word
    ∙ timer_count program words m t j accepted known private k.known (eqb-true (timer_def program j).thread.0 t k.own)

-- a timer is due by its word exactly where it is by its tick
due_by_word : (due : Option ℕ) (time : ℕ) → is_due (due_word due) time ≡ is_due_by due time
due_by_word None time = refl
due_by_word (Some due) time =
    let back : due + 1 - 1 ≡ due = omega arith in
    rw (lt-ltb 0 (due + 1) (omega arith)) (ap (λ n. nat_le n time) back)

-- of the timers below one more, those below it and it aren't due
off_below : (program : Program) (m : Model) (t time j : ℕ) → AreOffBelow program m t time j → has_due program m t time j ≡ false → AreOffBelow program m t time (j + 1)
off_below program m t time j below here k lt = elim (cases_eq k j) [ inl e ↦ subst (λ z. has_due program m t time z ≡ false) (sym e) here | inr ne ↦ below k (omega arith) ]

-- the timer of thread t is due where its tick is
own_due : (program : Program) (m : Model) (t time j : ℕ) (b : Bool) → is_owner program t j ≡ true → is_due_by (timer_of m j).due time ≡ b → has_due program m t time j ≡ b
own_due program m t time j b own is = ap (λ z. z && is_due_by (timer_of m j).due time) own ∙ is

-- its event is the pending one
timer_pending : (program : Program) (words : Memory) (m : Model) (t time : ℕ) (idle : Idle) (j : ℕ) → KnowsTimer program words m t time idle j →
    is_due_by (timer_of m j).due time ≡ true → pending program m t ≡ due_event m (Some j)
timer_pending program words m t time idle j k due =
    let i : KnowsIdle program words m t time idle = k.idle_is in
    pending-later program m t i.scan i.scanned i.running i.looked
    ∙ (ap (λ (o : Option ℕ). later_by m o (first_number (has_due program m t i.scan.time) 0 (length program.timers))) (search_none (has_item program m t) (length program.pipes) k.empty)
    ∙ (ap (λ time. due_event m (first_number (has_due program m t time) 0 (length program.timers))) (sym i.time_is)
    ∙ ap (due_event m) (search_finds (has_due program m t time) (length program.timers) j k.known (own_due program m t time j true k.own due) k.off)))

-- a timer that is due is picked
timer_picked : (program : Program) (words : Memory) (m : Model) (thread : ThreadId) (time : ℕ) (idle : Idle) (timer : TimerId) (word : ℕ) (due : Option ℕ) →
    thread.0 < length program.threads → IsCalm program m → KnowsTimer program words m thread.0 time idle timer.0 → (timer_of m timer.0).due ≡ due →
    word ≡ due_word due → is_due_by due time ≡ true → ScanHolds program words m (scan_at thread time (Picked (timer_pick thread time idle timer word)))
timer_picked program words m thread time idle timer word None known calm k is loaded due = absurd cc
timer_picked program words m thread time idle timer word (Some tick) known calm k is loaded due =
    let i : KnowsIdle program words m thread.0 time idle = k.idle_is in
    let back : tick ≡ word - 1 = omega arith in
    record {
      known = known;
      calm = calm;
      knows = record {
        known = known;
        calm = calm;
        scan = i.scan;
        scanned = i.scanned;
        time = i.time_is;
        passed = i.passed;
        pending_is =
            timer_pending program words m thread.0 time idle timer.0 k (ap (λ o. is_due_by o time) is ∙ due)
            ∙ (ap (λ (o : Option ℕ). elim o [ None ↦ None | Some due ↦ Some (timer_event timer.0 due) ]) is ∙ ap (λ n. Some (timer_event timer.0 n)) back);
        held = λ of_queue. absurd cc;
        running = sym i.running;
        position = i.position;
        commit_word = i.commit_word;
        first = λ task runs. absurd cc;
        loaded = λ idle. let e : word ≡ word - 1 + 1 = omega arith in e;
      };
    }

-- the timer is due, or the next one follows
timer_by : (program : Program) (words : Memory) (m : Model) (thread : ThreadId) (time : ℕ) (idle : Idle) (timer : TimerId) (word : ℕ) → IsAccepted program →
    thread.0 < length program.threads → IsCalm program m → KnowsTimer program words m thread.0 time idle timer.0 → word ≡ due_word (timer_of m timer.0).due →
    ScanHolds program words m (after_timer program thread time idle timer word)
timer_by program words m thread time idle timer word accepted known calm k loaded =
    let told : is_due word time ≡ is_due_by (timer_of m timer.0).due time = ap (λ n. is_due n time) loaded ∙ due_by_word (timer_of m timer.0).due time in
    elim (cases_Bool (is_due word time)) [
      | inl due ↦ rw due (timer_picked program words m thread time idle timer word (timer_of m timer.0).due known calm k refl loaded (sym told ∙ due))
      | inr off ↦
          let within : timer.0 < length program.timers = k.known in
          rw off
          (to_timer program words m thread time idle (timer.0 + 1) accepted known calm k.idle_is k.empty
          (off_below program m thread.0 time timer.0 k.off (own_due program m thread.0 time timer.0 false k.own (sym told ∙ off))) (omega arith))
    ]

pub timer_holds : (program : Program) (readings : Readings) (words : Memory) (m : Model) (thread : ThreadId) (time : ℕ) (idle : Idle) (timer : TimerId) →
    Background program readings words m → ScanHolds program words m (scan_at thread time (Timer idle timer)) →
    ScanHolds program words m (after_timer program thread time idle timer (words (place_in thread.0 idle.commit_word (header.due timer.0))))
timer_holds program readings words m thread time idle timer b h =
    timer_by program words m thread time idle timer _ b.accepted h.known h.calm h.knows (timer_is program words m thread.0 time idle timer.0 b.accepted h.known b.private h.knows)
