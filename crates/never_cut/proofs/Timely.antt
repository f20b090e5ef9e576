-- The pending event of an idle thread, where it is of a timer, was due by the scan's time.
use Rattle.never_cut.proofs.Common.{◌≡◌, ℕ, zero, suc, ◌+◌, ◌<◌, ◌≤◌, ◌^◌, Bool, true, false, List, [], ◌∷◌, Option, Some, None, refl, subst, arith, All, ◌==◌, ◌&&◌, if◌then◌else◌, drop, length, leb-true, All-drop, TaskId, Event, Origin, Program, timer_def, Model, ScanModel, ThreadModel, thread_of, timer_of, is_looked, is_running, unfinished, first_number, first_of, has_item, has_due, is_due_by, item_event, timer_event, due_event, later_event, pending_in, pending, is_of_queue, IsTimely, IsWithin}
use Rattle.ink_base.specs.declared.event.Origin.TheVariants as origins

holds_by : (test : ℕ → Bool) (at count j : ℕ) (b : Bool) → test at ≡ b → (first_number test (at + 1) count ≡ Some j → test j ≡ true) →
    (if b then Some at else first_number test (at + 1) count) ≡ Some j → test j ≡ true
holds_by test at count j true here more is = let e : at ≡ j = cc in subst (λ k. test k ≡ true) e here
holds_by test at count j false here more is = more is

-- what a search finds meets the test
pub first_number_holds : (test : ℕ → Bool) (at count j : ℕ) → first_number test at count ≡ Some j → test j ≡ true
first_number_holds test at zero j is = absurd (cc)
first_number_holds test at (suc count) j is = holds_by test at count j (test at) refl (first_number_holds test (at + 1) count j) is

due_timely : (due : Option ℕ) (j time : ℕ) (e : Event) → time < 2 ^ 47 → is_due_by due time ≡ true →
    ◌≡◌ {A = Option Event} (elim due as (λ _. Option Event) [ None ↦ None | Some d ↦ Some (timer_event j d) ]) (Some e) → IsTimely e
due_timely None j time e early is_due is = absurd (cc)
due_timely (Some due) j time e early is_due is =
    let within : due ≤ time = leb-true due time is_due in
    let same : timer_event j due ≡ e = cc in
    let early : due < 2 ^ 47 = omega arith in
    subst IsTimely same early

found_timely : (m : Model) (time : ℕ) (found : Option ℕ) (e : Event) → time < 2 ^ 47 →
    ((j : ℕ) → found ≡ Some j → is_due_by (timer_of m j).due time ≡ true) → due_event m found ≡ Some e → IsTimely e
found_timely m time None e early is_due is = absurd (cc)
found_timely m time (Some j) e early is_due is = due_timely (timer_of m j).due j time e early (is_due j refl) is

pub and_right : (a b : Bool) → (a && b) ≡ true → b ≡ true
and_right true b is = is
and_right false b is = absurd (cc)

due_of : (program : Program) (m : Model) (t time j : ℕ) → has_due program m t time j ≡ true → is_due_by (timer_of m j).due time ≡ true
due_of program m t time j holds = and_right ((timer_def program j).thread.0 == t) (is_due_by (timer_of m j).due time) holds

item_timely : (m : Model) (q : ℕ) (e : Event) → Some (item_event m q) ≡ Some e → IsTimely e
item_timely m q e is = let same : item_event m q ≡ e = cc in subst IsTimely same tt

-- the search through pipes and timers
later_timely : (program : Program) (m : Model) (t time : ℕ) (e : Event) → time < 2 ^ 47 → later_event program m t time ≡ Some e → IsTimely e
later_timely program m t time e early is =
    by_pipe (first_number (has_item program m t) 0 (length program.pipes)) is
  where
    timers : Option Event
    timers = due_event m (first_number (has_due program m t time) 0 (length program.timers))

    by_pipe : (pipe : Option ℕ) → ◌≡◌ {A = Option Event} (elim pipe as (λ _. Option Event) [ Some q ↦ Some (item_event m q) | None ↦ timers ]) (Some e) → IsTimely e
    by_pipe (Some q) found = item_timely m q e found
    by_pipe None found =
        found_timely m time (first_number (has_due program m t time) 0 (length program.timers)) e early
        (λ j there. due_of program m t time j (first_number_holds (has_due program m t time) 0 (length program.timers) j there)) found

queue_timely : (origin : Origin) (value : ℕ) → is_of_queue (record { origin = origin; value = value }) ≡ true → IsTimely (record { origin = origin; value = value })
queue_timely (origins.Source source count) value is = tt
queue_timely (origins.Pipe pipe item) value is = tt
queue_timely (origins.Timer timer deadline) value is = absurd (cc)

first_timely : (held : List Event) (e : Event) → All (λ x. is_of_queue x ≡ true) held → first_of held ≡ Some e → IsTimely e
first_timely [] e queued is = absurd (cc)
first_timely (x ∷ xs) e queued is = let same : x ≡ e = cc in subst IsTimely same (queue_timely x.origin x.value (queued 0 x (omega arith)))

unfinished_timely : (finished : Bool) (held : List Event) (e : Event) → All (λ x. is_of_queue x ≡ true) held →
    first_of (if finished then drop 1 held else held) ≡ Some e → IsTimely e
unfinished_timely false held e queued is = first_timely held e queued is
unfinished_timely true [] e queued is = absurd (cc)
unfinished_timely true (x ∷ xs) e queued is = first_timely xs e (All-drop (λ x'. is_of_queue x' ≡ true) 1 (x ∷ xs) queued) is

by_look : (looked : Bool) (later held : Option Event) (e : Event) → (if looked then later else held) ≡ Some e → (later ≡ Some e → IsTimely e) →
    (held ≡ Some e → IsTimely e) → IsTimely e
by_look true later held e is of_later of_held = of_later is
by_look false later held e is of_later of_held = of_held is

by_running : (running : Option TaskId) (chain idle : Option Event) (e : Event) →
    ◌≡◌ {A = Bool} (elim running as (λ _. Bool) [ Some task ↦ true | None ↦ false ]) false →
    ◌≡◌ {A = Option Event} (elim running as (λ _. Option Event) [ Some task ↦ chain | None ↦ idle ]) (Some e) → idle ≡ Some e
by_running (Some task) chain idle e runs is = absurd (cc)
by_running None chain idle e runs is = is

-- the pending event of an idle thread
pub pending_timely : (program : Program) (n : ℕ) (m : Model) (t : ℕ) (scan : ScanModel) (e : Event) → IsWithin program n m → m.scan ≡ Some scan →
    pending program m t ≡ Some e → is_running (thread_of m t) ≡ false → IsTimely e
pending_timely program n m t scan e within scanned is idle =
    let x : ThreadModel = thread_of m t in
    let in_scan : pending_in program m t scan ≡ Some e =
    subst (λ s. ◌≡◌ {A = Option Event} (elim s as (λ _. Option Event) [ None ↦ None | Some found ↦ pending_in program m t found ]) (Some e)) scanned is in
    by_look (is_looked scan.looked t) (later_event program m t scan.time) (first_of (unfinished x)) e
    (by_running x.running x.event (if is_looked scan.looked t then later_event program m t scan.time else first_of (unfinished x)) e idle in_scan)
    (later_timely program m t scan.time e (within.scan scan scanned))
    (unfinished_timely x.finished x.held e (within.threads t).held)
