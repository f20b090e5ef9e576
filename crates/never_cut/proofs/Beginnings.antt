-- What the state tells of the pending event of an idle thread.
use Rattle.never_cut.proofs.Common.{◌≡◌, ℕ, zero, suc, ◌+◌, ◌%◌, ◌^◌, ◌<◌, ◌≤◌, Bool, true, false, List, [], ◌∷◌, length, drop, Option, Some, None, refl, sym, ap, ◌∙◌, subst, arith, ◌==◌, ◌&&◌, nat_lt, slice_index, if◌then◌else◌, eqb-true, ltb-true, leb-true, Event, Origin, Program, pipe_def, timer_def, Model, ScanModel, thread_of, pipe_of, timer_of, is_looked, unfinished, first_number, first_of, has_item, has_due, is_due_by, item_event, timer_event, due_event, later_event, pending, event_at, IsQueued, IsFirstHeld}
use Rattle.ink_base.specs.declared.event.Origin.TheVariants as origins
use Rattle.never_cut.proofs.Timely.{first_number_holds, and_right}
use Rattle.never_cut.proofs.Picks.{pending-idle}

-- The service of an event can begin at a time: it is the first one of the thread's queue, the first item of a pipe that the thread reads, or of a timer
-- of the thread that is due.
abbrev pub Begins : Program → Model → (t time : ℕ) → Event → Type 0
Begins program m t time e = elim e.origin [
  | origins.Source source count ↦ IsFirstHeld m t e
  | origins.Pipe pipe item ↦
      (pipe.0 < length program.pipes) × ((pipe_def program pipe.0).reader.0 ≡ t) × (0 < length (pipe_of m pipe.0).items) × (item ≡ (pipe_of m pipe.0).taken)
      × (e.value ≡ slice_index (pipe_of m pipe.0).items 0)
  | origins.Timer timer deadline ↦
      (timer.0 < length program.timers) × ((timer_def program timer.0).thread.0 ≡ t) × ((timer_of m timer.0).due ≡ Some deadline) × (deadline ≤ time)
      × (e.value ≡ deadline % 2 ^ 32)
]

below_by : (test : ℕ → Bool) (at count j : ℕ) (b : Bool) → (first_number test (at + 1) count ≡ Some j → j < at + 1 + count) →
    (if b then Some at else first_number test (at + 1) count) ≡ Some j → j < at + suc count
below_by test at count j true more is = let e : at ≡ j = cc in omega arith
below_by test at count j false more is = let below = more is in omega arith

below_from : (test : ℕ → Bool) (at count j : ℕ) → first_number test at count ≡ Some j → j < at + count
below_from test at zero j is = absurd (cc)
below_from test at (suc count) j is = below_by test at count j (test at) (below_from test (at + 1) count j) is

-- what a search finds is among the numbers that it tries
first_number_below : (test : ℕ → Bool) (count j : ℕ) → first_number test 0 count ≡ Some j → j < count
first_number_below test count j is = let below = below_from test 0 count j is in omega arith

and_left : (a b : Bool) → (a && b) ≡ true → a ≡ true
and_left true b is = refl
and_left false b is = absurd (cc)

begins_item : (program : Program) (m : Model) (t time q : ℕ) (e : Event) → first_number (has_item program m t) 0 (length program.pipes) ≡ Some q → Some (item_event m q) ≡ Some e →
    Begins program m t time e
begins_item program m t time q e found is =
    let same : item_event m q ≡ e = cc in
    let holds : has_item program m t q ≡ true = first_number_holds (has_item program m t) 0 (length program.pipes) q found in
    let below : q < length program.pipes = first_number_below (has_item program m t) (length program.pipes) q found in
    let reads : (pipe_def program q).reader.0 ≡ t = eqb-true _ _ (and_left ((pipe_def program q).reader.0 == t) (nat_lt 0 (length (pipe_of m q).items)) holds) in
    let some : 0 < length (pipe_of m q).items = ltb-true _ _ (and_right ((pipe_def program q).reader.0 == t) (nat_lt 0 (length (pipe_of m q).items)) holds) in
    subst (Begins program m t time) same (below, reads, some, refl, refl)

due_begins : (program : Program) (m : Model) (t time j : ℕ) (due : Option ℕ) (e : Event) → j < length program.timers → (timer_def program j).thread.0 ≡ t → (timer_of m j).due ≡ due →
    is_due_by due time ≡ true → ◌≡◌ {A = Option Event} (elim due as (λ _. Option Event) [ None ↦ None | Some d ↦ Some (timer_event j d) ]) (Some e) → Begins program m t time e
due_begins program m t time j None e known own due early is = absurd (cc)
due_begins program m t time j (Some d) e known own due early is =
    let same : timer_event j d ≡ e = cc in
    subst (Begins program m t time) same (known, own, due, leb-true d time early, refl)

begins_due : (program : Program) (m : Model) (t time : ℕ) (found : Option ℕ) (e : Event) → first_number (has_due program m t time) 0 (length program.timers) ≡ found →
    due_event m found ≡ Some e → Begins program m t time e
begins_due program m t time None e found is = absurd (cc)
begins_due program m t time (Some j) e found is =
    let holds : has_due program m t time j ≡ true = first_number_holds (has_due program m t time) 0 (length program.timers) j found in
    let below : j < length program.timers = first_number_below (has_due program m t time) (length program.timers) j found in
    let own : (timer_def program j).thread.0 ≡ t = eqb-true _ _ (and_left ((timer_def program j).thread.0 == t) (is_due_by (timer_of m j).due time) holds) in
    due_begins program m t time j (timer_of m j).due e below own refl (and_right ((timer_def program j).thread.0 == t) (is_due_by (timer_of m j).due time) holds) is

-- an event of a pipe or a timer
pub begins_later : (program : Program) (m : Model) (t time : ℕ) (e : Event) → later_event program m t time ≡ Some e → Begins program m t time e
begins_later program m t time e is = by_pipe (first_number (has_item program m t) 0 (length program.pipes)) refl is
  where
    by_pipe : (pipe : Option ℕ) → first_number (has_item program m t) 0 (length program.pipes) ≡ pipe →
        ◌≡◌ {A = Option Event} (elim pipe as (λ _. Option Event) [ Some q ↦ Some (item_event m q) | None ↦ due_event m (first_number (has_due program m t time) 0 (length program.timers)) ]) (Some e) →
        Begins program m t time e
    by_pipe (Some q) found here = begins_item program m t time q e found here
    by_pipe None found here = begins_due program m t time (first_number (has_due program m t time) 0 (length program.timers)) e refl here

queue_begins : (program : Program) (m : Model) (t time : ℕ) (o : Origin) (value : ℕ) → IsQueued program t (record { origin = o; value = value }) →
    IsFirstHeld m t (record { origin = o; value = value }) → Begins program m t time (record { origin = o; value = value })
queue_begins program m t time (origins.Source source count) value queued first = first
queue_begins program m t time (origins.Pipe pipe item) value queued first = absurd queued
queue_begins program m t time (origins.Timer timer deadline) value queued first = absurd queued

begins_first : (program : Program) (m : Model) (t time : ℕ) (held : List Event) (e : Event) → (thread_of m t).held ≡ held → ((k : ℕ) → k < length held → IsQueued program t (event_at held k)) →
    first_of held ≡ Some e → Begins program m t time e
begins_first program m t time [] e same queued is = absurd (cc)
begins_first program m t time (x ∷ held) e same queued is =
    let first : x ≡ e = cc in
    subst (Begins program m t time) first (queue_begins program m t time x.origin x.value (queued 0 (omega arith)) (held, same))

-- the pending event of an idle thread with no finished event
pub begins : (program : Program) (m : Model) (t : ℕ) (scan : ScanModel) (e : Event) → ((k : ℕ) → k < length (thread_of m t).held → IsQueued program t (event_at (thread_of m t).held k)) →
    (thread_of m t).finished ≡ false → m.scan ≡ Some scan → (thread_of m t).running ≡ None → pending program m t ≡ Some e → Begins program m t scan.time e
begins program m t scan e queued clear is idle waits =
    by_look (is_looked scan.looked t) (sym (pending-idle program m t scan (is_looked scan.looked t) is idle refl) ∙ waits)
  where
    by_look : (b : Bool) → (if b then later_event program m t scan.time else first_of (unfinished (thread_of m t))) ≡ Some e → Begins program m t scan.time e
    by_look true found = begins_later program m t scan.time e found
    by_look false found =
        begins_first program m t scan.time (thread_of m t).held e refl queued
        (ap (λ b. first_of (if b then drop 1 (thread_of m t).held else (thread_of m t).held)) (sym clear) ∙ found)
