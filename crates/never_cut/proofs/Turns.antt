-- A thread that serves the events of its queue in turn.
use Rattle.never_cut.proofs.Common.{◌≡◌, ℕ, ◌+◌, ◌<◌, Bool, true, false, List, [], ◌∷◌, ◌++◌, length, drop, Option, Some, None, refl, sym, ap, ◌∙◌, subst, arith, length-append, ◌||◌, not, if◌then◌else◌, ForSome, TaskId, Event, Outcome, Program, TaskEnd, Model, ScanModel, ThreadModel, thread_of, timer_of, is_running, is_looked, unfinished, pending, pending_in, later_event, due_event, first_of, first_number, has_item, has_due, item_event, timer_event, end_at, expired_after, is_expired, is_of_queue, thread_after, with_end, with_first, pushed, released, of_queue}
use Rattle.task_isa.specs.declared.outcome.Outcome.TheVariants as outcomes
use Rattle.never_cut.proofs.Commits.{thread_committed}

-- an event, where it is of the queue, is the first that is held
abbrev pub IsFirstOf : List Event → Event → Type 0
IsFirstOf held e = is_of_queue e ≡ true → first_of held ≡ Some e

-- a thread whose queue is served in its turn: a finished event is held, and a running chain has nothing finished and serves the first held event
pub record IsInTurn (x : ThreadModel) : Type 0 where
  pub finished : x.finished ≡ true → 0 < length x.held
  pub clear : is_running x ≡ true → x.finished ≡ false
  pub chain : is_running x ≡ true → ForSome x.event (IsFirstOf x.held)

first_held : (held : List Event) (e : Event) → first_of held ≡ Some e → 0 < length held
first_held [] e is = absurd (let clash : None ≡ Some e = is in cc)
first_held (x ∷ held) e is = omega arith

first_more : (held more : List Event) (e : Event) → first_of held ≡ Some e → first_of (held ++ more) ≡ Some e
first_more [] more e is = absurd (let clash : None ≡ Some e = is in cc)
first_more (x ∷ held) more e is = is

first_rest : (held : List Event) (e : Event) → first_of held ≡ Some e → held ≡ e ∷ drop 1 held
first_rest [] e is = absurd (let clash : None ≡ Some e = is in cc)
first_rest (x ∷ held) e is = let same : x ≡ e = cc in ap (λ y. y ∷ held) same

pub pushed_turn : (e : Event) (x : ThreadModel) → IsInTurn x → IsInTurn (pushed e x)
pushed_turn e x h = record {
  finished = λ _. omega (arith, length-append x.held (e ∷ []));
  clear = h.clear;
  chain = λ runs f is queue. first_more x.held (e ∷ []) f (h.chain runs f is queue);
}

pub released_turn : (x : ThreadModel) → x.finished ≡ true → IsInTurn x → IsInTurn (released x)
released_turn x is h = record {
  finished = λ e. absurd (let clash : false ≡ true = e in cc);
  clear = λ _. refl;
  chain = λ runs. absurd (let clash : true ≡ false = sym is ∙ h.clear runs in cc);
}

-- the event that is pushed is the last unfinished one, and none is released unfinished
pub unfinished-pushed : (e : Event) (x : ThreadModel) → IsInTurn x → unfinished (pushed e x) ≡ unfinished x ++ e ∷ []
unfinished-pushed e x h = by_finished x.finished h.finished
  where
    by_held : (held : List Event) → 0 < length held → drop 1 (held ++ e ∷ []) ≡ drop 1 held ++ e ∷ []
    by_held [] some = absurd (omega arith)
    by_held (f ∷ held) some = refl

    by_finished : (b : Bool) → (b ≡ true → 0 < length x.held) → (if b then drop 1 (x.held ++ e ∷ []) else x.held ++ e ∷ []) ≡ (if b then drop 1 x.held else x.held) ++ e ∷ []
    by_finished true some = by_held x.held (some refl)
    by_finished false some = refl

pub unfinished-released : (x : ThreadModel) → x.finished ≡ true → unfinished (released x) ≡ unfinished x
unfinished-released x is = ap (λ b. if b then drop 1 x.held else x.held) (sym is)

-- after the service of an event the thread is in turn, and what was unfinished is that event, where it is finished now, and what is unfinished still
abbrev pub Turns : Event → ThreadModel → ThreadModel → Type 0
Turns e x next = IsInTurn next × (unfinished x ≡ (if not (is_running next) then of_queue (Some e) else []) ++ unfinished next)

ended_turn : (e : Event) (x : ThreadModel) → x.finished ≡ false → IsFirstOf x.held e → IsInTurn (with_end e x)
ended_turn e x clear first = record {
  finished = λ is. first_held x.held e (first (sym (ap (λ b. b || is_of_queue e) clear) ∙ is));
  clear = λ runs. absurd (let clash : false ≡ true = runs in cc);
  chain = λ runs. absurd (let clash : false ≡ true = runs in cc);
}

-- a service that is over
ended_turns : (e : Event) (x : ThreadModel) → x.finished ≡ false → IsFirstOf x.held e → Turns e x (with_end e x)
ended_turns e x clear first = (ended_turn e x clear first, by_queue (is_of_queue e) refl)
  where
    by_queue : (b : Bool) → is_of_queue e ≡ b → unfinished x ≡ (if b then e ∷ [] else []) ++ (if x.finished || b then drop 1 x.held else x.held)
    by_queue true is = rw clear (first_rest x.held e (first is))
    by_queue false is = rw clear refl

-- and one that may go on
after_turns : (e : Event) (outcome : Outcome) (state : List ℕ) (x : ThreadModel) → x.finished ≡ false → IsFirstOf x.held e → Turns e x (thread_after e outcome state x)
after_turns e (outcomes.Next task) state x clear first = (
  record {
    finished = λ is. absurd (let clash : false ≡ true = sym clear ∙ is in cc);
    clear = λ _. clear;
    chain = λ runs f is. let same : e ≡ f = cc in subst (IsFirstOf x.held) same first;
  },
  refl,
)
after_turns e outcomes.Done state x clear first = ended_turns e (record x { state = state; served = x.served + 1 }) clear first
after_turns e (outcomes.Trap code) state x clear first = ended_turns e (record x { trapped = x.trapped + 1 }) clear first

pub committed_turns : (program : Program) (t : ℕ) (e : Event) (time : ℕ) (m : Model) → (thread_of m t).finished ≡ false → IsFirstOf (thread_of m t).held e →
    Turns e (thread_of m t) (thread_committed program t e time m)
committed_turns program t e time m clear first = by_expiry (is_expired program m t time)
  where
    x : ThreadModel
    x = thread_of m t

    end : TaskEnd
    end = end_at program m t e time

    by_running : (running : Bool) → Turns e (thread_of m t) (thread_after e end.outcome end.state (if running then x else record x { first = time }))
    by_running true = after_turns e end.outcome end.state x clear first
    by_running false = after_turns e end.outcome end.state (record x { first = time }) clear first

    by_expiry : (over : Bool) → Turns e (thread_of m t) (if over then expired_after e x else thread_after e end.outcome end.state (with_first time x))
    by_expiry true = ended_turns e (record x { expired = x.expired + 1 }) clear first
    by_expiry false = by_running (is_running x)

-- a later event is none of a queue
later_of : (program : Program) (m : Model) (t time : ℕ) (e : Event) → later_event program m t time ≡ Some e → is_of_queue e ≡ false
later_of program m t time e is = by_pipe (first_number (has_item program m t) 0 (length program.pipes)) is
  where
    by_due : (j : ℕ) (due : Option ℕ) → ◌≡◌ {A = Option Event} (elim due as (λ _. Option Event) [ None ↦ None | Some d ↦ Some (timer_event j d) ]) (Some e) → is_of_queue e ≡ false
    by_due j None found = absurd (cc)
    by_due j (Some d) found = let same : timer_event j d ≡ e = cc in ap is_of_queue (sym same)

    by_timer : (o : Option ℕ) → due_event m o ≡ Some e → is_of_queue e ≡ false
    by_timer None found = absurd (cc)
    by_timer (Some j) found = by_due j (timer_of m j).due found

    by_pipe : (o : Option ℕ) → ◌≡◌ {A = Option Event} (elim o as (λ _. Option Event) [ Some q ↦ Some (item_event m q) | None ↦ due_event m (first_number (has_due program m t time) 0 (length program.timers)) ]) (Some e) → is_of_queue e ≡ false
    by_pipe (Some q) found = let same : item_event m q ≡ e = cc in ap is_of_queue (sym same)
    by_pipe None found = by_timer (first_number (has_due program m t time) 0 (length program.timers)) found

-- the pending event of a thread that is served in its turn and has nothing finished
pub pending_of : (program : Program) (m : Model) (t : ℕ) (scan : ScanModel) (e : Event) → IsInTurn (thread_of m t) → (thread_of m t).finished ≡ false → m.scan ≡ Some scan →
    pending program m t ≡ Some e → IsFirstOf (thread_of m t).held e
pending_of program m t scan e h clear scanned is =
    by_running (thread_of m t).running refl
    (subst (λ s. ◌≡◌ {A = Option Event} (elim s as (λ _. Option Event) [ None ↦ None | Some found ↦ pending_in program m t found ]) (Some e)) scanned is)
  where
    by_look : (b : Bool) → (if b then later_event program m t scan.time else first_of (unfinished (thread_of m t))) ≡ Some e → IsFirstOf (thread_of m t).held e
    by_look true found queue = absurd (let clash : true ≡ false = sym queue ∙ later_of program m t scan.time e found in cc)
    by_look false found queue = ap (λ b. first_of (if b then drop 1 (thread_of m t).held else (thread_of m t).held)) (sym clear) ∙ found

    by_running : (o : Option TaskId) → (thread_of m t).running ≡ o →
        ◌≡◌ {A = Option Event} (elim o as (λ _. Option Event) [ Some task ↦ (thread_of m t).event | None ↦ if is_looked scan.looked t then later_event program m t scan.time else first_of (unfinished (thread_of m t)) ]) (Some e) →
        IsFirstOf (thread_of m t).held e
    by_running (Some task) runs found = h.chain (ap (λ (r : Option TaskId). elim r as (λ _. Bool) [ Some x ↦ true | None ↦ false ]) runs) e found
    by_running None runs found = by_look (is_looked scan.looked t) found
