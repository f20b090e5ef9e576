-- Each access of a scan lowers how many are left at most.
use Rattle.priority_sched.proofs.Common.{◌≡◌, ℕ, ◌+◌, ◌-◌, ◌<◌, ◌≤◌, ◌==◌, ◌&&◌, true, false, List, [], ◌∷◌, length, Option, Some, None, arith, refl, inl, inr, eqb-true, eq-eqb, lt-ltb, le-ltb, nat_le, cases_Bool, ThreadId, TaskId, Event, Program, thread_def, pipe_def, timer_def, slot_in, priority_of, next_below, IsHighest, Chain, Idle, Waiting, ScanAt, Clock, Commit, Running, Finished, Origin, Value, First, Slot, Taken, Writer, Written, Item, Timer, Picked, Quiet, ScanMachine, scan_begun, scan_next, scan_result, scan_takes, at_pipe, at_timer, after_finished, after_look, after_timer, after_value, after_written, event_at, is_owner, is_reader, next_pipe, next_timer}
use Rattle.std.proofs.Common.{leb-true, le-leb, ltb-true}
use Rattle.std.proofs.lemmas.Bool.{and_from, and_parts, and_right, lt-leb, or_cases, or_from, or_left, or_right}
use Rattle.ink_base.specs.declared.limits.TheConstants as limits
use Rattle.event_pipe.specs.Ring as ring
use Rattle.persist_timer.specs.Due as due
use Rattle.priority_sched.specs.Scan.{scan_passed}
use Rattle.priority_sched.specs.Bounded.{AreScanned, EveryScanEnds}
use Rattle.priority_sched.specs.kept.LeftMost.{is_later, is_ahead, threads_left, pipes_left, timers_left, ahead, left_at, scan_left}
use Rattle.priority_sched.proofs.Counts.{count-most, count-less, count-fewer, count-some}
use Rattle.priority_sched.proofs.Orders.{next_is_highest}
use Rattle.priority_sched.proofs.Searches.{IsSearched, searched}

module _ (program : Program) where
  -- what is ahead of a thread that is visited later is ahead of this one too
  ahead-later : (t u from v n : ℕ) → priority_of program u < priority_of program t → is_ahead program u 0 v n ≡ true → is_ahead program t from v n ≡ true
  ahead-later t u from v n lt is =
      elim (or_cases (is_later program (priority_of program u) v) ((v == u) && nat_le 0 n) is) [
        | inl later ↦
            let below : priority_of program v < priority_of program u = ltb-true _ _ later in
            or_left _ _ (lt-ltb (priority_of program v) (priority_of program t) (omega arith))
        | inr own ↦
            let same : v ≡ u = eqb-true v u ((and_parts (v == u) (nat_le 0 n) own).0) in
            or_left _ _ (lt-ltb (priority_of program v) (priority_of program t) (rw same lt))
      ]

  -- and what is ahead of a number is ahead of those before it
  ahead-further : (t from more v n : ℕ) → from ≤ more → is_ahead program t more v n ≡ true → is_ahead program t from v n ≡ true
  ahead-further t from more v n le is =
      elim (or_cases (is_later program (priority_of program t) v) ((v == t) && nat_le more n) is) [
        | inl later ↦ or_left _ _ later
        | inr own ↦
            let parts = and_parts (v == t) (nat_le more n) own in
            let above : more ≤ n = leb-true more n parts.1 in
            or_right _ _ (and_from _ _ parts.0 (le-leb from n (omega arith)))
      ]

  -- behind the last number only later threads have any
  ahead-others : (t from last v n : ℕ) → n < last → is_ahead program t last v n ≡ true → is_ahead program t from v n ≡ true
  ahead-others t from last v n lt is =
      elim (or_cases (is_later program (priority_of program t) v) ((v == t) && nat_le last n) is) [
        | inl later ↦ or_left _ _ later
        | inr own ↦ absurd (let above : last ≤ n = leb-true last n ((and_parts (v == t) (nat_le last n) own).1) in omega arith)
      ]

  -- the thread's own number is ahead of itself, and no more once it was loaded
  ahead-own : (t from n : ℕ) → from ≤ n → is_ahead program t from t n ≡ true
  ahead-own t from n le = or_right _ _ (and_from _ _ (eq-eqb t t refl) (le-leb from n le))

  ahead-loaded : (t n : ℕ) → is_ahead program t (n + 1) t n ≡ false
  ahead-loaded t n =
      or_from _ _ (le-ltb (priority_of program t) (priority_of program t) (omega arith)) (and_right _ _ (lt-leb (n + 1) n (omega arith)))

  -- the next thread has four words of its own
  passed_less : (t u pipe timer : ℕ) → u < length program.threads → priority_of program u < priority_of program t → 4 + ahead program u 0 0 ≤ ahead program t pipe timer
  passed_less t u pipe timer known lt =
      let threads : threads_left program (priority_of program u) < threads_left program (priority_of program t) =
      count-fewer (is_later program (priority_of program u)) (is_later program (priority_of program t)) (length program.threads) u known
      (le-ltb (priority_of program u) (priority_of program u) (omega arith)) (lt-ltb (priority_of program u) (priority_of program t) lt)
      (λ k within is. let below : priority_of program k < priority_of program u = ltb-true _ _ is in lt-ltb (priority_of program k) (priority_of program t) (omega arith)) in
      let pipes : pipes_left program u 0 ≤ pipes_left program t pipe =
      count-less (λ q. is_ahead program u 0 (pipe_def program q).reader.0 q) (λ q. is_ahead program t pipe (pipe_def program q).reader.0 q) (length program.pipes)
      (λ k within is. ahead-later t u pipe (pipe_def program k).reader.0 k lt is) in
      let timers : timers_left program u 0 ≤ timers_left program t timer =
      count-less (λ j. is_ahead program u 0 (timer_def program j).thread.0 j) (λ j. is_ahead program t timer (timer_def program j).thread.0 j) (length program.timers)
      (λ k within is. ahead-later t u timer (timer_def program k).thread.0 k lt is) in
      omega arith

  -- a pipe of the thread has three
  pipe_less : (t from q : ℕ) → q < length program.pipes → from ≤ q → (pipe_def program q).reader.0 ≡ t → 3 + ahead program t (q + 1) 0 ≤ ahead program t from 0
  pipe_less t from q known le own =
      let pipes : pipes_left program t (q + 1) < pipes_left program t from =
      count-fewer (λ k. is_ahead program t (q + 1) (pipe_def program k).reader.0 k) (λ k. is_ahead program t from (pipe_def program k).reader.0 k) (length program.pipes) q known
      (rw own (ahead-loaded t q)) (rw own (ahead-own t from q le)) (λ k within is. ahead-further t from (q + 1) (pipe_def program k).reader.0 k (omega arith) is) in
      omega arith

  -- and a timer one
  timer_less : (t pipe from j : ℕ) → j < length program.timers → from ≤ j → (timer_def program j).thread.0 ≡ t →
      1 + ahead program t (length program.pipes) (j + 1) ≤ ahead program t pipe from
  timer_less t pipe from j known le own =
      let pipes : pipes_left program t (length program.pipes) ≤ pipes_left program t pipe =
      count-less (λ k. is_ahead program t (length program.pipes) (pipe_def program k).reader.0 k) (λ k. is_ahead program t pipe (pipe_def program k).reader.0 k) (length program.pipes)
      (λ k within is. ahead-others t pipe (length program.pipes) (pipe_def program k).reader.0 k within is) in
      let timers : timers_left program t (j + 1) < timers_left program t from =
      count-fewer (λ k. is_ahead program t (j + 1) (timer_def program k).thread.0 k) (λ k. is_ahead program t from (timer_def program k).thread.0 k) (length program.timers) j known
      (rw own (ahead-loaded t j)) (rw own (ahead-own t from j le)) (λ k within is. ahead-further t from (j + 1) (timer_def program k).thread.0 k (omega arith) is) in
      omega arith

  -- the row of the next thread, or the end
  next_left : (thread : ThreadId) (time pipe timer : ℕ) (next : Option ThreadId) → IsHighest program (priority_of program thread.0) (length program.threads) next →
      scan_left program (scan_next thread time next) ≤ ahead program thread.0 pipe timer
  next_left thread time pipe timer None highest = omega arith
  next_left thread time pipe timer (Some u) highest = passed_less thread.0 u.0 pipe timer highest.0 highest.1

  passed_left : (thread : ThreadId) (time pipe timer : ℕ) → scan_left program (scan_passed program thread time) ≤ ahead program thread.0 pipe timer
  passed_left thread time pipe timer = next_left thread time pipe timer (next_below program (priority_of program thread.0)) (next_is_highest program (priority_of program thread.0) (length program.threads))

  -- the row of the next timer, or of the next thread
  timer_left : (thread : ThreadId) (time pipe from : ℕ) (idle : Idle) (found : Option ℕ) → IsSearched (is_owner program thread.0) from (length program.timers - from) found →
      scan_left program (at_timer program thread time idle found) ≤ ahead program thread.0 pipe from
  timer_left thread time pipe from idle None searched = passed_left thread time pipe from
  timer_left thread time pipe from idle (Some j) searched =
      let le : from ≤ j = searched.0 in
      let lt : j < from + (length program.timers - from) = searched.1 in
      timer_less thread.0 pipe from j (omega arith) le (eqb-true _ _ searched.2)

  -- the row of the next pipe, or of the first timer
  pipe_left : (thread : ThreadId) (time from : ℕ) (idle : Idle) (found : Option ℕ) → IsSearched (is_reader program thread.0) from (length program.pipes - from) found →
      scan_left program (at_pipe program thread time idle found) ≤ ahead program thread.0 from 0
  pipe_left thread time from idle None searched_pipes =
      timer_left thread time from 0 idle (next_timer program thread.0 0) (searched (is_owner program thread.0) 0 (length program.timers - 0))
  pipe_left thread time from idle (Some q) searched_pipes =
      let le : from ≤ q = searched_pipes.0 in
      let lt : q < from + (length program.pipes - from) = searched_pipes.1 in
      pipe_less thread.0 from q (omega arith) le (eqb-true _ _ searched_pipes.2)

  -- the first thread has all of the board ahead but itself
  first_left : (thread : ThreadId) (time : ℕ) (next : Option ThreadId) → IsHighest program (limits.PRIORITY + 1) (length program.threads) next →
      scan_left program (scan_next thread time next) < left_at program thread.0 Clock
  first_left thread time None highest = omega arith
  first_left thread time (Some u) highest =
      let threads : threads_left program (priority_of program u.0) < length program.threads =
      count-some (is_later program (priority_of program u.0)) (length program.threads) u.0 highest.0 (le-ltb (priority_of program u.0) (priority_of program u.0) (omega arith)) in
      let pipes : pipes_left program u.0 0 ≤ length program.pipes = count-most _ _ in
      let timers : timers_left program u.0 0 ≤ length program.timers = count-most _ _ in
      omega arith

  finished_left : (thread : ThreadId) (time c p : ℕ) (running : Option TaskId) → scan_left program (after_finished thread time c p running) < 2 + ahead program thread.0 0 0
  finished_left thread time c p None = omega arith
  finished_left thread time c p (Some task) = omega arith

  value_left : (thread : ThreadId) (time : ℕ) (chain : Chain) (e : Event) (expires : Option ℕ) → scan_left program (after_value thread time chain e expires) < 2
  value_left thread time chain e None = omega arith
  value_left thread time chain e (Some ticks) = omega arith

  look_left : (thread : ThreadId) (time c p : ℕ) (e : Option Event) → scan_left program (after_look program thread time c p e) < 1 + ahead program thread.0 0 0
  look_left thread time c p (Some e) = omega arith
  look_left thread time c p None =
      let pipe = pipe_left thread time 0 (record { commit_word = c; position = p }) (next_pipe program thread.0 0) (searched (is_reader program thread.0) 0 (length program.pipes - 0)) in
      omega arith

  written_left : (thread : ThreadId) (time : ℕ) (w : Waiting) (written : ℕ) → scan_left program (after_written program thread time w written) < 1 + ahead program thread.0 (w.pipe.0 + 1) 0
  written_left thread time w written =
      elim (cases_Bool (ring.has_item written w.taken)) [
        | inl item ↦ rw item (omega arith)
        | inr none ↦
            let from : ℕ = w.pipe.0 + 1 in
            let pipe = pipe_left thread time from w.idle (next_pipe program thread.0 from) (searched (is_reader program thread.0) from (length program.pipes - from)) in
            rw none (omega arith)
      ]

  due_left : (thread : ThreadId) (time : ℕ) (idle : Idle) (j word : ℕ) →
      scan_left program (after_timer program thread time idle (record { 0 = j }) word) < 1 + ahead program thread.0 (length program.pipes) (j + 1)
  due_left thread time idle j word =
      elim (cases_Bool (due.is_due word time)) [
        | inl is ↦ rw is (omega arith)
        | inr not ↦
            let timer = timer_left thread time (length program.pipes) (j + 1) idle (next_timer program thread.0 (j + 1))
            (searched (is_owner program thread.0) (j + 1) (length program.timers - (j + 1))) in
            rw not (omega arith)
      ]

  -- each row, whatever word it finds
  row_falls : (thread : ThreadId) (time : ℕ) (at : ScanAt) (word : ℕ) → scan_result at ≡ None → scan_left program (scan_takes program thread time at word) < left_at program thread.0 at
  row_falls thread time Clock word more = first_left thread word (next_below program (limits.PRIORITY + 1)) (next_is_highest program (limits.PRIORITY + 1) (length program.threads))
  row_falls thread time Commit word more = omega arith
  row_falls thread time (Running c) word more = omega arith
  row_falls thread time (Finished c running) word more = finished_left thread time c word running
  row_falls thread time (Origin chain) word more = omega arith
  row_falls thread time (Value chain o) word more = value_left thread time chain (record { origin = o; value = word }) (thread_def program thread.0).expires
  row_falls thread time (First chain e) word more = omega arith
  row_falls thread time (Slot c p) word more = look_left thread time c p (event_at p (slot_in word))
  row_falls thread time (Taken idle pipe) word more = omega arith
  row_falls thread time (Writer w) word more = omega arith
  row_falls thread time (Written w c) word more = written_left thread time w word
  row_falls thread time (Item w) word more = omega arith
  row_falls thread time (Timer idle timer) word more = due_left thread time idle timer.0 word
  row_falls thread time (Picked pick) word more = absurd cc
  row_falls thread time Quiet word more = absurd cc

-- Each access of a scan that isn't over lowers what is left at most.
pub scan_falls : (program : Program) (scan : ScanMachine) (word : ℕ) → scan_result scan.at ≡ None →
    scan_left program (scan_takes program scan.thread scan.time scan.at word) < scan_left program scan
scan_falls program scan word more = row_falls program scan.thread scan.time scan.at word more

scanned_within : (program : Program) (words : List ℕ) (scan : ScanMachine) → AreScanned program scan words → length words ≤ scan_left program scan
scanned_within program [] scan scanned = omega arith
scanned_within program (word ∷ words) scan scanned =
    let falls = scan_falls program scan word scanned.0 in
    let rest : length words ≤ scan_left program (scan_takes program scan.thread scan.time scan.at word) = scanned_within program words _ scanned.1 in
    omega arith

pub every_scan_ends : EveryScanEnds
every_scan_ends program words scanned = scanned_within program words scan_begun scanned
