-- Where a scan goes on: to the thread's next pipe or timer, or to the next thread.
use Rattle.priority_sched.proofs.Common.{◌≡◌, ◌≢◌, ℕ, ◌+◌, ◌-◌, ◌<◌, ◌≤◌, false, length, Option, Some, None, arith, ap, ◌∙◌, sym, inl, inr, subst, ◌&&◌, Bool, nat_lt, cases_eq, cases_lt, ThreadId, Event, Program, Memory, IsAccepted, Model, pipe_of, timer_of, first_number, has_item, has_due, is_due_by, item_event, due_event, later_event, IsCalm, IsPassed, Idle, priority_of, next_below, IsHighest, scan_next, is_reader, is_owner, next_pipe, next_timer, at_pipe, at_timer, IsReached, KnowsIdle, AreEmptyBelow, AreOffBelow, ScanHolds}
use Rattle.priority_sched.proofs.Orders.{next_is_highest, same_priority}
use Rattle.priority_sched.proofs.Searches.{IsSearched, searched, search_none}

-- the scan goes on to the thread of the greatest priority below the bound
goes_on_to : (program : Program) (words : Memory) (m : Model) (thread : ThreadId) (time bound : ℕ) (next : Option ThreadId) → thread.0 < length program.threads →
    IsCalm program m → IsHighest program bound (length program.threads) next → IsReached program m bound time → ScanHolds program words m (scan_next thread time next)
goes_on_to program words m thread time bound (Some next) known calm highest r = record {
  known = highest.0;
  calm = calm;
  knows = record {
    scan = r.scan;
    scanned = r.scanned;
    time_is = r.time_is;
    passed = λ u within above.
        elim (cases_lt (priority_of program u) bound) [
          | inl below ↦ let low : priority_of program u ≤ priority_of program next.0 = highest.2 u within below in absurd (omega arith)
          | inr out ↦ r.passed u within out
        ];
    rest = λ u within low. let below : priority_of program next.0 < bound = highest.1 in r.rest u within (omega arith);
  };
}
goes_on_to program words m thread time bound None known calm highest r = record {
  known = known;
  calm = calm;
  knows = record {
    scan = r.scan;
    scanned = r.scanned;
    time_is = r.time_is;
    passed = λ u within _. r.passed u within (highest u within);
    rest = λ u within low. absurd (omega arith);
  };
}

pub goes_on : (program : Program) (words : Memory) (m : Model) (thread : ThreadId) (time bound : ℕ) → thread.0 < length program.threads →
    IsCalm program m → IsReached program m bound time → ScanHolds program words m (scan_next thread time (next_below program bound))
goes_on program words m thread time bound known calm r =
    goes_on_to program words m thread time bound (next_below program bound) known calm (next_is_highest program bound (length program.threads)) r

-- a later event, by the first pipe with an item and the first timer that is due
abbrev pub later_by : Model → Option ℕ → Option ℕ → Option Event
later_by m pipe timer = elim pipe [ Some q ↦ Some (item_event m q) | None ↦ due_event m timer ]

-- where no pipe of a thread has an item and no timer of it is due, nothing later waits
nothing_later : (program : Program) (m : Model) (t time : ℕ) → AreEmptyBelow program m t (length program.pipes) → AreOffBelow program m t time (length program.timers) →
    later_event program m t time ≡ None
nothing_later program m t time empty off =
    ap (λ (o : Option ℕ). later_by m o (first_number (has_due program m t time) 0 (length program.timers))) (search_none (has_item program m t) (length program.pipes) empty)
    ∙ ap (λ (o : Option ℕ). later_by m None o) (search_none (has_due program m t time) (length program.timers) off)

-- then the thread is passed, as those above it
reached_here : (program : Program) (words : Memory) (m : Model) (t time : ℕ) (idle : Idle) → IsAccepted program → t < length program.threads →
    KnowsIdle program words m t time idle → AreEmptyBelow program m t (length program.pipes) → AreOffBelow program m t time (length program.timers) →
    IsReached program m (priority_of program t) time
reached_here program words m t time idle accepted known k empty off = record {
  scan = k.scan;
  scanned = k.scanned;
  time_is = k.time_is;
  passed = λ u within above.
      elim (cases_eq u t) [
        | inl e ↦ subst (λ z. IsPassed program m k.scan z) (sym e) (record {
          looked = k.looked;
          idle = k.running;
          nothing = ap (later_event program m t) (sym k.time_is) ∙ nothing_later program m t time empty off;
        })
        | inr ne ↦
            let other : priority_of program u ≢ priority_of program t = λ e. ne (same_priority program u t accepted within known e) in
            k.passed u within (omega arith)
      ];
  rest = k.rest;
}

-- after the numbers below `from`, those before one that a search found, and which don't meet its test
before_found : (test has : ℕ → Bool) (from n : ℕ) → ((k : ℕ) → test k ≡ false → has k ≡ false) → ((k : ℕ) → k < from → has k ≡ false) →
    ((k : ℕ) → from ≤ k → k < n → test k ≡ false) → (k : ℕ) → k < n → has k ≡ false
before_found test has from n fails below between k lt = elim (cases_lt k from) [ inl old ↦ below k old | inr new ↦ fails k (between k new lt) ]

-- a pipe that another thread reads gives no item, and a timer of another thread isn't due
pub other_pipe : (program : Program) (m : Model) (t q : ℕ) → is_reader program t q ≡ false → has_item program m t q ≡ false
other_pipe program m t q e = ap (λ b. b && nat_lt 0 (length (pipe_of m q).items)) e

pub other_timer : (program : Program) (m : Model) (t time j : ℕ) → is_owner program t j ≡ false → has_due program m t time j ≡ false
other_timer program m t time j e = ap (λ b. b && is_due_by (timer_of m j).due time) e

-- the scan goes on to the thread's first timer from a number on, or passes the thread
to_timer_by : (program : Program) (words : Memory) (m : Model) (thread : ThreadId) (time : ℕ) (idle : Idle) (from : ℕ) (found : Option ℕ) → IsAccepted program →
    thread.0 < length program.threads → IsCalm program m → KnowsIdle program words m thread.0 time idle → AreEmptyBelow program m thread.0 (length program.pipes) →
    AreOffBelow program m thread.0 time from → from ≤ length program.timers → IsSearched (is_owner program thread.0) from (length program.timers - from) found →
    ScanHolds program words m (at_timer program thread time idle found)
to_timer_by program words m thread time idle from (Some j) accepted known calm k empty off within found = record {
  known = known;
  calm = calm;
  knows = record {
    idle_is = k;
    known = let lt : j < from + (length program.timers - from) = found.1 in omega arith;
    own = found.2;
    empty = empty;
    off = before_found (is_owner program thread.0) (has_due program m thread.0 time) from j (other_timer program m thread.0 time) off found.3;
  };
}
to_timer_by program words m thread time idle from None accepted known calm k empty off within found =
    let all : from + (length program.timers - from) ≡ length program.timers = omega arith in
    let none : AreOffBelow program m thread.0 time (length program.timers) =
    before_found (is_owner program thread.0) (has_due program m thread.0 time) from (length program.timers) (other_timer program m thread.0 time) off
    (λ j le lt. found j le (subst (λ n. j < n) (sym all) lt)) in
    goes_on program words m thread time (priority_of program thread.0) known calm (reached_here program words m thread.0 time idle accepted known k empty none)

pub to_timer : (program : Program) (words : Memory) (m : Model) (thread : ThreadId) (time : ℕ) (idle : Idle) (from : ℕ) → IsAccepted program →
    thread.0 < length program.threads → IsCalm program m → KnowsIdle program words m thread.0 time idle → AreEmptyBelow program m thread.0 (length program.pipes) →
    AreOffBelow program m thread.0 time from → from ≤ length program.timers →
    ScanHolds program words m (at_timer program thread time idle (next_timer program thread.0 from))
to_timer program words m thread time idle from accepted known calm k empty off within =
    to_timer_by program words m thread time idle from (next_timer program thread.0 from) accepted known calm k empty off within
    (searched (is_owner program thread.0) from (length program.timers - from))

-- the scan goes on to the thread's first pipe from a number on, or to its timers
to_pipe_by : (program : Program) (words : Memory) (m : Model) (thread : ThreadId) (time : ℕ) (idle : Idle) (from : ℕ) (found : Option ℕ) → IsAccepted program →
    thread.0 < length program.threads → IsCalm program m → KnowsIdle program words m thread.0 time idle → AreEmptyBelow program m thread.0 from →
    from ≤ length program.pipes → IsSearched (is_reader program thread.0) from (length program.pipes - from) found →
    ScanHolds program words m (at_pipe program thread time idle found)
to_pipe_by program words m thread time idle from (Some q) accepted known calm k empty within found = record {
  known = known;
  calm = calm;
  knows = record {
    idle_is = k;
    known = let lt : q < from + (length program.pipes - from) = found.1 in omega arith;
    reads = found.2;
    empty = before_found (is_reader program thread.0) (has_item program m thread.0) from q (other_pipe program m thread.0) empty found.3;
  };
}
to_pipe_by program words m thread time idle from None accepted known calm k empty within found =
    let all : from + (length program.pipes - from) ≡ length program.pipes = omega arith in
    let none : AreEmptyBelow program m thread.0 (length program.pipes) =
    before_found (is_reader program thread.0) (has_item program m thread.0) from (length program.pipes) (other_pipe program m thread.0) empty
    (λ q le lt. found q le (subst (λ n. q < n) (sym all) lt)) in
    to_timer program words m thread time idle 0 accepted known calm k none (λ j lt. absurd (omega arith)) (omega arith)

pub to_pipe : (program : Program) (words : Memory) (m : Model) (thread : ThreadId) (time : ℕ) (idle : Idle) (from : ℕ) → IsAccepted program →
    thread.0 < length program.threads → IsCalm program m → KnowsIdle program words m thread.0 time idle → AreEmptyBelow program m thread.0 from →
    from ≤ length program.pipes → ScanHolds program words m (at_pipe program thread time idle (next_pipe program thread.0 from))
to_pipe program words m thread time idle from accepted known calm k empty within =
    to_pipe_by program words m thread time idle from (next_pipe program thread.0 from) accepted known calm k empty within
    (searched (is_reader program thread.0) from (length program.pipes - from))
