-- The pending event of a thread, and what the accesses of the other actors leave of it and of a pick.
use Rattle.never_cut.proofs.Common.{◌≡◌, ℕ, Bool, true, false, List, [], ◌∷◌, ◌++◌, drop, Option, Some, None, refl, sym, ap, ◌∙◌, if◌then◌else◌, Event, Program, Memory, Pick, Model, ScanModel, ThreadModel, PipeModel, TimerModel, thread_of, is_looked, unfinished, pending, pending_in, later_event, first_of, TaskId, IsPassed, SamePrivate, Follows, IsFirstHeld, IsPicked}
use Rattle.fram_words.specs.Places.{Commit}
use Rattle.never_cut.proofs.Follows.{with_parts, follow_finished, follow_released, follow_running, follow_event, follow_first, follow_first_commit, follow_calm}

-- the pending event is that of the scan
pub pending-scan : (program : Program) (m : Model) (t : ℕ) (scan : ScanModel) → m.scan ≡ Some scan → pending program m t ≡ pending_in program m t scan
pending-scan program m t scan is = ap (λ (s : Option ScanModel). elim s as (λ _. Option Event) [ None ↦ None | Some scan ↦ pending_in program m t scan ]) is

-- the pending event, by whether a chain runs and the scan has looked at the queue
abbrev pub pending_by : Option TaskId → Option Event → Bool → Option Event → Option Event → Option Event
pending_by running event looked later first = elim running [ Some task ↦ event | None ↦ if looked then later else first ]

-- of a thread whose chain runs
pub pending-running : (program : Program) (m : Model) (t : ℕ) (scan : ScanModel) (task : TaskId) → m.scan ≡ Some scan → (thread_of m t).running ≡ Some task →
    pending program m t ≡ (thread_of m t).event
pending-running program m t scan task is runs =
    let later = later_event program m t scan.time in
    let first = first_of (unfinished (thread_of m t)) in
    pending-scan program m t scan is ∙ ap (λ r. pending_by r (thread_of m t).event (is_looked scan.looked t) later first) runs

-- of an idle thread
pub pending-idle : (program : Program) (m : Model) (t : ℕ) (scan : ScanModel) (looked : Bool) → m.scan ≡ Some scan → (thread_of m t).running ≡ None → is_looked scan.looked t ≡ looked →
    pending program m t ≡ (if looked then later_event program m t scan.time else first_of (unfinished (thread_of m t)))
pending-idle program m t scan looked is idle e =
    let later = later_event program m t scan.time in
    let first = first_of (unfinished (thread_of m t)) in
    pending-scan program m t scan is
    ∙ (ap (λ r. pending_by r (thread_of m t).event (is_looked scan.looked t) later first) idle
    ∙ ap (λ b. pending_by None (thread_of m t).event b later first) e)

-- of an idle thread at whose queue the scan has not looked
pub pending-first : (program : Program) (m : Model) (t : ℕ) (scan : ScanModel) (e : Event) → m.scan ≡ Some scan → (thread_of m t).running ≡ None →
    is_looked scan.looked t ≡ false → (thread_of m t).finished ≡ false → IsFirstHeld m t e → pending program m t ≡ Some e
pending-first program m t scan e is idle unlooked clear first =
    let x : ThreadModel = thread_of m t in
    pending-idle program m t scan false is idle unlooked
    ∙ (ap (λ b. first_of (if b then drop 1 x.held else x.held)) clear ∙ ap first_of first.1)

-- and of one at which it has looked
pub pending-later : (program : Program) (m : Model) (t : ℕ) (scan : ScanModel) → m.scan ≡ Some scan → (thread_of m t).running ≡ None →
    is_looked scan.looked t ≡ true → pending program m t ≡ later_event program m t scan.time
pending-later program m t scan is idle looked = pending-idle program m t scan true is idle looked

-- a later event is the same in the next state: pipes and timers are
pub later_follows : (program : Program) (m next : Model) (t time : ℕ) → Follows m next → later_event program next t time ≡ later_event program m t time
later_follows program m next t time f =
    ap (λ (p : List PipeModel). later_event program (with_parts m p next.timers next.outputs) t time) f.pipes
    ∙ ap (λ (j : List TimerModel). later_event program (with_parts m m.pipes j next.outputs) t time) f.timers

pub passed_follows : (program : Program) (m next : Model) (scan : ScanModel) (t : ℕ) → Follows m next → IsPassed program m scan t → IsPassed program next scan t
passed_follows program m next scan t f h = record {
  looked = h.looked;
  idle = follow_running m next t f ∙ h.idle;
  nothing = later_follows program m next t scan.time f ∙ h.nothing;
}

first_of-append : (held more : List Event) (e : Event) → first_of held ≡ Some e → first_of (held ++ more) ≡ Some e
first_of-append [] more e is = absurd (let clash : None ≡ Some e = is in cc)
first_of-append (x ∷ held) more e is = is

-- the first event of a queue stays the first
first_follows : (m next : Model) (t : ℕ) (e : Event) → Follows m next → (thread_of m t).finished ≡ false → first_of (unfinished (thread_of m t)) ≡ Some e →
    first_of (unfinished (thread_of next t)) ≡ Some e
first_follows m next t e f clear is =
    let x : ThreadModel = thread_of next t in
    let was : first_of (thread_of m t).held ≡ Some e = ap (λ b. first_of (if b then drop 1 (thread_of m t).held else (thread_of m t).held)) (sym clear) ∙ is in
    ap (λ b. first_of (if b then drop 1 x.held else x.held)) (follow_finished m next t f ∙ clear)
    ∙ (ap first_of (f.held t) ∙ first_of-append (thread_of m t).held (f.more t) e was)

idle_follows : (program : Program) (m next : Model) (t : ℕ) (scan : ScanModel) (e : Event) → Follows m next → (thread_of m t).finished ≡ false → m.scan ≡ Some scan →
    (thread_of m t).running ≡ None → pending program m t ≡ Some e → pending program next t ≡ Some e
idle_follows program m next t scan e f clear is idle waits =
    by_look (is_looked scan.looked t) refl
  where
    by_look : (b : Bool) → is_looked scan.looked t ≡ b → pending program next t ≡ Some e
    by_look true looked =
        pending-later program next t scan (f.scan ∙ is) (follow_running m next t f ∙ idle) looked
        ∙ (later_follows program m next t scan.time f ∙ (sym (pending-later program m t scan is idle looked) ∙ waits))
    by_look false unlooked =
        pending-idle program next t scan false (f.scan ∙ is) (follow_running m next t f ∙ idle) unlooked
        ∙ first_follows m next t e f clear (sym (pending-idle program m t scan false is idle unlooked) ∙ waits)

-- a pending event outlasts the accesses of the other actors
pub pending_follows : (program : Program) (m next : Model) (t : ℕ) (scan : ScanModel) (e : Event) → Follows m next → (thread_of m t).finished ≡ false → m.scan ≡ Some scan →
    pending program m t ≡ Some e → pending program next t ≡ Some e
pending_follows program m next t scan e f clear is waits = by_running (thread_of m t).running refl
  where
    by_running : (running : Option TaskId) → (thread_of m t).running ≡ running → pending program next t ≡ Some e
    by_running (Some task) runs =
        pending-running program next t scan task (f.scan ∙ is) (follow_running m next t f ∙ runs)
        ∙ (follow_event m next t f ∙ (sym (pending-running program m t scan task is runs) ∙ waits))
    by_running None idle = idle_follows program m next t scan e f clear is idle waits

-- a pick outlasts the accesses of the other actors
pub picked_follows : (program : Program) (words new : Memory) (m next : Model) (pick : Pick) → SamePrivate words new → Follows m next →
    IsPicked program words m pick → IsPicked program new next pick
picked_follows program words new m next pick same f h =
    record {
      known = h.known;
      calm = follow_calm program m next f h.calm;
      scan = h.scan;
      scanned = f.scan ∙ h.scanned;
      time = h.time;
      passed = λ u known higher. passed_follows program m next h.scan u f (h.passed u known higher);
      pending_is = pending_follows program m next pick.thread.0 h.scan pick.event f (h.calm pick.thread.0 h.known) h.scanned h.pending_is;
      held = λ queued. follow_first m next pick.thread.0 pick.event f (h.held queued);
      running = h.running ∙ sym (follow_running m next pick.thread.0 f);
      position = h.position ∙ sym (follow_released m next pick.thread.0 f);
      commit_word = h.commit_word ∙ sym (same (Commit pick.thread.0) tt);
      first = λ task runs ticks expires. h.first task runs ticks expires ∙ sym (follow_first_commit m next pick.thread.0 f);
      loaded = h.loaded;
    }
