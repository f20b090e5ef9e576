-- The parts of a state stay within their bounds.
use Rattle.never_cut.proofs.Common.{◌≡◌, ℕ, ◌+◌, ◌<◌, ◌≤◌, true, false, List, [], ◌∷◌, length, get_or, set, inl, inr, refl, sym, ◌∙◌, subst, arith, if◌then◌else◌, slice_index_or, get_or-set_other, length-set, cases_eq, cases_lt, get_or-set_at, set_past, All-append, All-drop, TaskId, Event, Origin, Outcome, Program, Sent, TimerSet, EndsBelow, ThreadModel, PipeModel, TimerModel, is_running, no_pipe, no_timer, expired_after, is_of_queue, moved_on, set_by, taken_from, thread_after, with_first, with_item, with_sends, with_timers, pushed, released, IsWithinThread}
use Rattle.ink_base.specs.declared.event.Origin.TheVariants as origins
use Rattle.task_isa.specs.declared.outcome.Outcome.TheVariants as outcomes

-- what holds of each element holds after one is set to what it holds of
pub each_after_set : {X : Type 0} (P : X → Type 0) (xs : List X) (t : ℕ) (x d : X) → ((k : ℕ) → P (get_or xs k d)) → P x → (k : ℕ) → P (get_or (set xs t x) k d)
each_after_set P xs t x d each here k =
    elim (cases_eq k t) [
      | inl same ↦
          elim (cases_lt t (length xs)) [
            | inl within ↦ subst P (sym (get_or-set_at xs t k x d same within)) here
            | inr past ↦ subst (λ ys. P (get_or ys k d)) (sym (set_past xs t x past)) (each k)
          ]
      | inr other ↦ subst P (sym (get_or-set_other xs t k x d other)) (each k)
    ]

-- a wider bound
pub wider_thread : (program : Program) (n k : ℕ) (x : ThreadModel) → n ≤ k → IsWithinThread program n x → IsWithinThread program k x
wider_thread program n k x more within =
    record {
      released = let r = within.released in omega arith;
      served = let r = within.served in omega arith;
      trapped = let r = within.trapped in omega arith;
      expired = let r = within.expired in omega arith;
      held = within.held;
      running = within.running;
    }

pub later_thread : (program : Program) (n : ℕ) (x : ThreadModel) → IsWithinThread program n x → IsWithinThread program (n + 1) x
later_thread program n x within = wider_thread program n (n + 1) x (omega arith) within

pub pushed_thread : (program : Program) (n : ℕ) (x : ThreadModel) (e : Event) → is_of_queue e ≡ true → IsWithinThread program n x →
    IsWithinThread program (n + 1) (pushed e x)
pushed_thread program n x e queued within =
    let more = later_thread program n x within in
    record {
      released = more.released;
      served = more.served;
      trapped = more.trapped;
      expired = more.expired;
      held = All-append (λ f. is_of_queue f ≡ true) x.held (e ∷ []) within.held (λ k d h. let first : k ≡ 0 = omega arith in subst (λ i. is_of_queue (get_or (e ∷ []) i d) ≡ true) (sym first) queued);
      running = within.running;
    }

pub released_thread : (program : Program) (n : ℕ) (x : ThreadModel) → IsWithinThread program n x → IsWithinThread program (n + 1) (released x)
released_thread program n x within =
    let more = later_thread program n x within in
    record {
      released = let r = within.released in omega arith;
      served = more.served;
      trapped = more.trapped;
      expired = more.expired;
      held = All-drop (λ f. is_of_queue f ≡ true) 1 x.held within.held;
      running = within.running;
    }

pub expired_thread : (program : Program) (n : ℕ) (x : ThreadModel) (e : Event) → IsWithinThread program n x → IsWithinThread program (n + 1) (expired_after e x)
expired_thread program n x e within =
    let more = later_thread program n x within in
    record {
      released = more.released;
      served = more.served;
      trapped = more.trapped;
      expired = let r = within.expired in omega arith;
      held = within.held;
      running = λ task is. absurd (cc);
    }

first_thread : (program : Program) (n time : ℕ) (x : ThreadModel) → IsWithinThread program n x → IsWithinThread program n (with_first time x)
first_thread program n time x within =
    elim (is_running x) as (λ b. IsWithinThread program n (if b then x else record x { first = time })) [
      | true ↦ within
      | false ↦
          record {
            released = within.released;
            served = within.served;
            trapped = within.trapped;
            expired = within.expired;
            held = within.held;
            running = within.running;
          }
    ]

after_thread : (program : Program) (n : ℕ) (x : ThreadModel) (e : Event) (outcome : Outcome) (state : List ℕ) → EndsBelow (length program.tasks) outcome →
    IsWithinThread program n x → IsWithinThread program (n + 1) (thread_after e outcome state x)
after_thread program n x e (outcomes.Next task) state below within =
    let more = later_thread program n x within in
    record {
      released = more.released;
      served = more.served;
      trapped = more.trapped;
      expired = more.expired;
      held = within.held;
      running = λ next is. let same : task ≡ next = cc in subst (λ (x' : TaskId). x'.0 < length program.tasks) same below;
    }
after_thread program n x e outcomes.Done state below within =
    let more = later_thread program n x within in
    record {
      released = more.released;
      served = let r = within.served in omega arith;
      trapped = more.trapped;
      expired = more.expired;
      held = within.held;
      running = λ task is. absurd (cc);
    }
after_thread program n x e (outcomes.Trap code) state below within =
    let more = later_thread program n x within in
    record {
      released = more.released;
      served = more.served;
      trapped = let r = within.trapped in omega arith;
      expired = more.expired;
      held = within.held;
      running = λ task is. absurd (cc);
    }

pub ended_thread : (program : Program) (n time : ℕ) (x : ThreadModel) (e : Event) (outcome : Outcome) (state : List ℕ) → EndsBelow (length program.tasks) outcome →
    IsWithinThread program n x → IsWithinThread program (n + 1) (thread_after e outcome state (with_first time x))
ended_thread program n time x e outcome state below within =
    after_thread program n (with_first time x) e outcome state below (first_thread program n time x within)

-- as many items were taken from each pipe at most
abbrev pub TakenWithin : ℕ → List PipeModel → Type 0
TakenWithin n pipes = (q : ℕ) → (slice_index_or pipes q no_pipe).taken ≤ n

pub wider_pipes : (n k : ℕ) (pipes : List PipeModel) → n ≤ k → TakenWithin n pipes → TakenWithin k pipes
wider_pipes n k pipes more within q = let r = within q in omega arith

pub later_pipes : (n : ℕ) (pipes : List PipeModel) → TakenWithin n pipes → TakenWithin (n + 1) pipes
later_pipes n pipes within = wider_pipes n (n + 1) pipes (omega arith) within

pub taken_pipes : (n : ℕ) (origin : Origin) (pipes : List PipeModel) → TakenWithin n pipes → TakenWithin (n + 1) (taken_from origin pipes)
taken_pipes n (origins.Source source count) pipes within = later_pipes n pipes within
taken_pipes n (origins.Pipe pipe item) pipes within =
    each_after_set (λ (p : PipeModel). p.taken ≤ n + 1) pipes pipe.0 _ no_pipe (later_pipes n pipes within) (let r = within pipe.0 in omega arith)
taken_pipes n (origins.Timer timer deadline) pipes within = later_pipes n pipes within

pub sent_pipes : (n : ℕ) (sends : List Sent) (pipes : List PipeModel) → TakenWithin n pipes → TakenWithin n (with_sends sends pipes)
sent_pipes n [] pipes within = within
sent_pipes n (s ∷ sends) pipes within =
    sent_pipes n sends (with_item s pipes) (each_after_set (λ (p : PipeModel). p.taken ≤ n) pipes s.pipe.0 _ no_pipe within (within s.pipe.0))

pub length-taken_from : (origin : Origin) (pipes : List PipeModel) → length (taken_from origin pipes) ≡ length pipes
length-taken_from (origins.Source source count) pipes = refl
length-taken_from (origins.Pipe pipe item) pipes = simp length-set
length-taken_from (origins.Timer timer deadline) pipes = refl

pub length-moved_on : (origin : Origin) (timers : List TimerModel) → length (moved_on origin timers) ≡ length timers
length-moved_on (origins.Source source count) timers = refl
length-moved_on (origins.Pipe pipe item) timers = refl
length-moved_on (origins.Timer timer deadline) timers = simp length-set

pub length-with_sends : (sends : List Sent) (pipes : List PipeModel) → length (with_sends sends pipes) ≡ length pipes
length-with_sends [] pipes = refl
length-with_sends (s ∷ sends) pipes = length-with_sends sends (with_item s pipes) ∙ simp length-set

pub length-with_timers : (settings : List TimerSet) (timers : List TimerModel) → length (with_timers settings timers) ≡ length timers
length-with_timers [] timers = refl
length-with_timers (s ∷ settings) timers =
    length-with_timers settings (set timers s.timer.0 (set_by s (slice_index_or timers s.timer.0 no_timer))) ∙ simp length-set
