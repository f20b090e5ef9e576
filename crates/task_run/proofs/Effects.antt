-- What a commit makes of outputs and threads.
use Rattle.task_run.proofs.Common.{◌≡◌, ◌≢◌, ℕ, ◌+◌, ◌<◌, false, List, [], ◌∷◌, ◌++◌, length, arith, refl, ap, ◌∙◌, sym, subst, None, filter, slice_set, ◌==◌, eq-eqb, ne_eqb, append-nil, get_or-set_same, get_or-set_other, filter-append, Event, Origin, Output, RunEnd, Ended, Trapped, task_end, Model, ThreadModel, PipeModel, TimerModel, no_thread, thread_of, stamped, outputs_of, with_end, expired_after, thread_after, Saved, flag, Ending, rested, finished_by, counted, concluded, IsEndOf}
use Rattle.ink_base.specs.declared.event.Origin.TheVariants as origins
use Rattle.task_isa.specs.declared.outcome.Outcome.TheVariants as outcomes
use Rattle.task_run.specs.declared.ending.Ending.TheVariants as endings

-- the outputs of a commit are those of its thread
stamped-own : (stamp t : ℕ) (outs : List ℕ) → filter (λ (o : Output). o.thread.0 == t) (stamped stamp t outs) ≡ stamped stamp t outs
stamped-own stamp t [] = refl
stamped-own stamp t (v ∷ outs) = rw (eq-eqb t t refl) (ap (λ l. record { stamp = stamp; thread = record { 0 = t }; value = v } ∷ l) (stamped-own stamp t outs))

stamped-other : (stamp t u : ℕ) (outs : List ℕ) → t ≢ u → filter (λ (o : Output). o.thread.0 == u) (stamped stamp t outs) ≡ []
stamped-other stamp t u [] ne = refl
stamped-other stamp t u (v ∷ outs) ne = rw (ne_eqb t u ne) (stamped-other stamp t u outs ne)

-- the state with a thread, pipes, timers and outputs of a commit
abbrev pub with_commit : ℕ → ThreadModel → List PipeModel → List TimerModel → List ℕ → Model → Model
with_commit t x pipes timers outs m =
    record m { threads = slice_set m.threads t x; pipes = pipes; timers = timers; outputs = m.outputs ++ stamped (m.commits + 1) t outs; commits = m.commits + 1; scan = None }

pub outputs-own : (t : ℕ) (x : ThreadModel) (pipes : List PipeModel) (timers : List TimerModel) (outs : List ℕ) (m : Model) →
    outputs_of (with_commit t x pipes timers outs m) t ≡ outputs_of m t ++ stamped (m.commits + 1) t outs
outputs-own t x pipes timers outs m =
    filter-append (λ (o : Output). o.thread.0 == t) m.outputs (stamped (m.commits + 1) t outs)
    ∙ ap (λ l. outputs_of m t ++ l) (stamped-own (m.commits + 1) t outs)

pub outputs-other : (t u : ℕ) (x : ThreadModel) (pipes : List PipeModel) (timers : List TimerModel) (outs : List ℕ) (m : Model) → u ≢ t →
    outputs_of (with_commit t x pipes timers outs m) u ≡ outputs_of m u
outputs-other t u x pipes timers outs m ne =
    filter-append (λ (o : Output). o.thread.0 == u) m.outputs (stamped (m.commits + 1) t outs)
    ∙ (ap (λ l. outputs_of m u ++ l) (stamped-other (m.commits + 1) t u outs (λ e. ne (sym e))) ∙ append-nil (outputs_of m u))

pub thread-own : (t : ℕ) (x : ThreadModel) (pipes : List PipeModel) (timers : List TimerModel) (outs : List ℕ) (m : Model) → t < length m.threads →
    thread_of (with_commit t x pipes timers outs m) t ≡ x
thread-own t x pipes timers outs m lt = get_or-set_same m.threads t x no_thread lt

pub thread-other : (t u : ℕ) (x : ThreadModel) (pipes : List PipeModel) (timers : List TimerModel) (outs : List ℕ) (m : Model) → u ≢ t →
    thread_of (with_commit t x pipes timers outs m) u ≡ thread_of m u
thread-other t u x pipes timers outs m ne = get_or-set_other m.threads t u x no_thread ne

-- what a thread's words say of it, beside its outputs, pipes and timers
abbrev pub told_by : ThreadModel → Saved → Saved
told_by x z =
    record z {
      state = x.state;
      running = x.running;
      first = x.first;
      ended = x.released + flag x.finished;
      served = x.served;
      trapped = x.trapped;
      expired = x.expired;
    }

-- nothing of the thread's queue is finished
abbrev clear : ThreadModel → ThreadModel
clear x = record x { finished = false }

clear-is : (x : ThreadModel) → x.finished ≡ false → clear x ≡ x
clear-is x none = ap (λ b. record x { finished = b }) (sym none)

-- the end of a service, by the event's origin
abbrev event_by : Origin → ℕ → Event
event_by origin value = record { origin = origin; value = value }

rests_by : (origin : Origin) (value : ℕ) (x : ThreadModel) (z : Saved) → told_by (with_end (event_by origin value) (clear x)) z ≡ finished_by origin (rested (told_by (clear x) z))
rests_by (origins.Source source count) value x z = ap (λ n. record (rested (told_by x z)) { ended = n }) (omega arith)
rests_by (origins.Pipe pipe item) value x z = refl
rests_by (origins.Timer timer deadline) value x z = refl

pub rests : (e : Event) (x : ThreadModel) (z : Saved) → x.finished ≡ false → told_by (with_end e x) z ≡ finished_by e.origin (rested (told_by x z))
rests e x z none = subst (λ y. told_by (with_end e y) z ≡ finished_by e.origin (rested (told_by y z))) (clear-is x none) (rests_by e.origin e.value x z)

-- a service more is counted
abbrev served_more : ThreadModel → ThreadModel
served_more x = record x { served = x.served + 1 }

counts_served : (origin : Origin) (y : Saved) → finished_by origin (rested (record y { served = y.served + 1 })) ≡ counted endings.Done (finished_by origin (rested y))
counts_served (origins.Source source count) y = refl
counts_served (origins.Pipe pipe item) y = refl
counts_served (origins.Timer timer deadline) y = refl

counts_trapped : (origin : Origin) (y : Saved) → finished_by origin (rested (record y { trapped = y.trapped + 1 })) ≡ counted endings.Trapped (finished_by origin (rested y))
counts_trapped (origins.Source source count) y = refl
counts_trapped (origins.Pipe pipe item) y = refl
counts_trapped (origins.Timer timer deadline) y = refl

counts_expired : (origin : Origin) (y : Saved) → finished_by origin (rested (record y { expired = y.expired + 1 })) ≡ counted endings.Expired (finished_by origin (rested y))
counts_expired (origins.Source source count) y = refl
counts_expired (origins.Pipe pipe item) y = refl
counts_expired (origins.Timer timer deadline) y = refl

pub expires : (e : Event) (x : ThreadModel) (z : Saved) → x.finished ≡ false → told_by (expired_after e x) z ≡ concluded endings.Expired e.origin (told_by x z)
expires e x z none = rests e (record x { expired = x.expired + 1 }) z none ∙ counts_expired e.origin (told_by x z)

-- the thread after its task ended
pub ends : (e : Event) (limit : ℕ) (w : RunEnd) (ending : Ending) (x : ThreadModel) (z : Saved) → x.finished ≡ false → IsEndOf w ending →
    told_by (thread_after e (task_end limit x.state w).outcome (task_end limit x.state w).state x) z
    ≡ concluded ending e.origin (record (told_by x z) { state = (task_end limit x.state w).state })
ends e limit (Ended (outcomes.Next task) eff left) ending x z none is =
    subst (λ k. told_by (thread_after e (outcomes.Next task) eff.state x) z ≡ concluded k e.origin (record (told_by x z) { state = eff.state })) (sym is) refl
ends e limit (Ended outcomes.Done eff left) ending x z none is =
    subst (λ k. told_by (thread_after e outcomes.Done eff.state x) z ≡ concluded k e.origin (record (told_by x z) { state = eff.state })) (sym is)
    (rests e (record x { state = eff.state; served = x.served + 1 }) z none ∙ counts_served e.origin (record (told_by x z) { state = eff.state }))
ends e limit (Ended (outcomes.Trap code) eff left) ending x z none is = absurd is
ends e limit (Trapped code left) ending x z none is =
    subst (λ k. told_by (thread_after e (outcomes.Trap code) x.state x) z ≡ concluded k e.origin (told_by x z)) (sym is)
    (rests e (record x { trapped = x.trapped + 1 }) z none ∙ counts_trapped e.origin (told_by x z))
