-- What of a thread beside its own words its commit changes.
use Rattle.task_run.proofs.Common.{◌≡◌, ℕ, Bool, true, false, List, refl, ap, sym, subst, ◌||◌, Option, Some, None, if◌then◌else◌, Event, RunEnd, Ended, Trapped, task_end, ThreadModel, is_running, is_of_queue, thread_after, Ending, IsEndOf}
use Rattle.task_isa.specs.declared.outcome.Outcome.TheVariants as outcomes
use Rattle.task_run.specs.declared.ending.Ending.TheVariants as endings
use Rattle.task_run.proofs.Commits.{thread_by}

-- a queue event is finished unless its chain goes on
abbrev pub finishes : Ending → Event → Bool
finishes (endings.Next task) e = false
finishes _ e = is_of_queue e

-- the queue is as it was; a queue event is finished unless the chain goes on, and a chain that goes on has its event
pub record IsServed (e : Event) (ending : Ending) (x y : ThreadModel) : Type 0 where
  pub held : y.held ≡ x.held
  pub released : y.released ≡ x.released
  pub finished : y.finished ≡ finishes ending e
  pub event : (other : Event) → y.event ≡ Some other → other ≡ e

no_other : (e other : Event) → ◌≡◌ {A = Option Event} None (Some other) → other ≡ e
no_other e other is = absurd (cc)

or-none : (a b : Bool) → a ≡ false → (a || b) ≡ b
or-none a b is = ap (λ c. c || b) is

-- the thread after its task ended
served_by : (e : Event) (limit : ℕ) (state : List ℕ) (w : RunEnd) (ending : Ending) (x : ThreadModel) → x.finished ≡ false → IsEndOf w ending →
    IsServed e ending x (thread_after e (task_end limit state w).outcome (task_end limit state w).state x)
served_by e limit state (Ended (outcomes.Next task) eff left) ending x none is =
    subst (λ k. IsServed e k x (thread_after e (outcomes.Next task) eff.state x)) (sym is)
    (record { held = refl; released = refl; finished = none; event = λ other some. cc })
served_by e limit state (Ended outcomes.Done eff left) ending x none is =
    subst (λ k. IsServed e k x (thread_after e outcomes.Done eff.state x)) (sym is)
    (record { held = refl; released = refl; finished = or-none x.finished (is_of_queue e) none; event = no_other e })
served_by e limit state (Ended (outcomes.Trap code) eff left) ending x none is = absurd is
served_by e limit state (Trapped code left) ending x none is =
    subst (λ k. IsServed e k x (thread_after e (outcomes.Trap code) state x)) (sym is)
    (record { held = refl; released = refl; finished = or-none x.finished (is_of_queue e) none; event = no_other e })

-- where the service began makes no difference
first_served : (e : Event) (time : ℕ) (limit : ℕ) (state : List ℕ) (w : RunEnd) (ending : Ending) (x : ThreadModel) (b : Bool) → x.finished ≡ false → IsEndOf w ending →
    IsServed e ending x (thread_after e (task_end limit state w).outcome (task_end limit state w).state (if b then x else record x { first = time }))
first_served e time limit state w ending x true none is = served_by e limit state w ending x none is
first_served e time limit state w ending x false none is =
    let h = served_by e limit state w ending (record x { first = time }) none is in
    record { held = h.held; released = h.released; finished = h.finished; event = h.event }

pub serves : (e : Event) (time : ℕ) (limit : ℕ) (state : List ℕ) (w : RunEnd) (ending : Ending) (x : ThreadModel) → x.finished ≡ false → (late : Bool) →
    elim late as (λ _. Type 0) [ true ↦ ending ≡ endings.Expired | false ↦ IsEndOf w ending ] →
    IsServed e ending x (thread_by late e (task_end limit state w) time x)
serves e time limit state w ending x none true is =
    subst (λ k. IsServed e k x (thread_by true e (task_end limit state w) time x)) (sym is)
    (record { held = refl; released = refl; finished = or-none x.finished (is_of_queue e) none; event = no_other e })
serves e time limit state w ending x none false is = first_served e time limit state w ending x (is_running x) none is
