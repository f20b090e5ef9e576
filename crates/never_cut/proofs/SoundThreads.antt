-- A thread stays sound over the end of a task of it, and over the commits of others.
use Rattle.never_cut.proofs.Common.{◌≡◌, ℕ, ◌+◌, ◌<◌, ◌≤◌, Bool, true, false, List, length, Option, Some, None, refl, sym, ap, ◌∙◌, arith, subst, ◌||◌, if◌then◌else◌, TaskId, Event, Origin, Program, Outcome, thread_def, pipe_def, ThreadModel, is_of_queue, with_end, thread_after, expired_after}
use Rattle.ink_base.specs.declared.event.Origin.TheVariants as origins
use Rattle.task_isa.specs.declared.outcome.Outcome.TheVariants as outcomes
use Rattle.never_cut.proofs.Values.{HaveBits}
use Rattle.never_cut.proofs.RightActs.{IsRightOutcome}
use Rattle.never_cut.proofs.SoundParts.{IsSoundAt, IsChainAt, IsServedBy}

-- no more items were taken from the pipes that a thread reads
abbrev pub SameTaken : Program → ℕ → (taken next : ℕ → ℕ) → Type 0
SameTaken program t taken next = (q : ℕ) → q < length program.pipes → (pipe_def program q).reader.0 ≡ t → next q ≡ taken q

served_kept : (program : Program) (taken next : ℕ → ℕ) (t : ℕ) (held : List Event) (o : Origin) (value : ℕ) → SameTaken program t taken next →
    IsServedBy program taken t held (record { origin = o; value = value }) → IsServedBy program next t held (record { origin = o; value = value })
served_kept program taken next t held (origins.Source source count) value same served = served
served_kept program taken next t held (origins.Pipe pipe item) value same served = (served.0, served.1, served.2 ∙ sym (same pipe.0 served.0 served.1), served.3)
served_kept program taken next t held (origins.Timer timer deadline) value same served = served

-- a thread whose sources have no more readings left
pub settled_at : (program : Program) (taken : ℕ → ℕ) (t : ℕ) (x : ThreadModel) (left fewer outs clock : ℕ) → fewer ≤ left →
    IsSoundAt program taken t x left outs clock → IsSoundAt program taken t x fewer outs clock
settled_at program taken t x left fewer outs clock le h = record {
  positions = let old = h.positions in omega arith;
  queued = h.queued;
  finished = h.finished;
  idle = h.idle;
  chain = h.chain;
  outputs = h.outputs;
  first = h.first;
  size = h.size;
  values = h.values;
}

-- a thread at another's commit
pub other_at : (program : Program) (taken next : ℕ → ℕ) (t : ℕ) (x : ThreadModel) (left outs clock : ℕ) → SameTaken program t taken next →
    IsSoundAt program taken t x left outs clock → IsSoundAt program next t x left outs clock
other_at program taken next t x left outs clock same h = record {
  positions = h.positions;
  queued = h.queued;
  finished = h.finished;
  idle = h.idle;
  chain = λ task is.
      let c = h.chain task is in
      record {
        known = c.known;
        own = c.own;
        event = c.event;
        is = c.is;
        served = served_kept program taken next t x.held c.event.origin c.event.value same c.served;
        unfinished = c.unfinished;
      };
  outputs = h.outputs;
  first = h.first;
  size = h.size;
  values = h.values;
}

-- where a service begins, the thread's first commit is at that time
pub first_at : (program : Program) (taken : ℕ → ℕ) (t : ℕ) (x : ThreadModel) (left outs clock time : ℕ) (b : Bool) → time ≤ clock →
    IsSoundAt program taken t x left outs clock → IsSoundAt program taken t (if b then x else record x { first = time }) left outs clock
first_at program taken t x left outs clock time true le h = h
first_at program taken t x left outs clock time false le h = record {
  positions = h.positions;
  queued = h.queued;
  finished = h.finished;
  idle = h.idle;
  chain = λ task is.
      let c = h.chain task is in
      record { known = c.known; own = c.own; event = c.event; is = c.is; served = c.served; unfinished = c.unfinished };
  outputs = h.outputs;
  first = le;
  size = h.size;
  values = h.values;
}

pub first_keeps : {X : Type 0} (part : ThreadModel → X) (x : ThreadModel) (time : ℕ) (b : Bool) → part (record x { first = time }) ≡ part x →
    part (if b then x else record x { first = time }) ≡ part x
first_keeps part x time true same = refl
first_keeps part x time false same = same

-- an event of a queue that is served is held
queue_held : (program : Program) (taken : ℕ → ℕ) (t : ℕ) (held : List Event) (o : Origin) (value : ℕ) → IsServedBy program taken t held (record { origin = o; value = value }) →
    is_of_queue (record { origin = o; value = value }) ≡ true → 0 < length held
queue_held program taken t held (origins.Source source count) value served is = served.0
queue_held program taken t held (origins.Pipe pipe item) value served is = absurd (let clash : false ≡ true = is in cc)
queue_held program taken t held (origins.Timer timer deadline) value served is = absurd (let clash : false ≡ true = is in cc)

-- a thread whose service is over
over_at : (program : Program) (taken next : ℕ → ℕ) (t : ℕ) (x : ThreadModel) (e : Event) (state : List ℕ) (served trapped expired left outs more clock : ℕ) →
    IsSoundAt program taken t x left outs clock → IsServedBy program next t x.held e → x.finished ≡ false → length state ≡ (thread_def program t).state →
    HaveBits state → more ≤ (thread_def program t).log →
    IsSoundAt program next t (with_end e (record x { state = state; served = served; trapped = trapped; expired = expired })) left more clock
over_at program taken next t x e state served trapped expired left outs more clock h serves clear size values fits = record {
  positions = h.positions;
  queued = h.queued;
  finished = λ is. (queue_held program next t x.held e.origin e.value serves (ap (λ b. b || is_of_queue e) (sym clear) ∙ is), refl);
  idle = λ _. refl;
  chain = λ task is. absurd (let clash : None ≡ Some task = is in cc);
  outputs = fits;
  first = h.first;
  size = size;
  values = values;
}

-- a thread whose chain goes on
next_at : (program : Program) (taken next : ℕ → ℕ) (t : ℕ) (x : ThreadModel) (e : Event) (task : TaskId) (state : List ℕ) (left outs more clock : ℕ) →
    IsSoundAt program taken t x left outs clock → IsServedBy program next t x.held e → x.finished ≡ false → length state ≡ (thread_def program t).state →
    HaveBits state → IsRightOutcome program t (outcomes.Next task) → more ≤ (thread_def program t).log →
    IsSoundAt program next t (thread_after e (outcomes.Next task) state x) left more clock
next_at program taken next t x e task state left outs more clock h serves clear size values right fits = record {
  positions = h.positions;
  queued = h.queued;
  finished = λ is. absurd (let clash : false ≡ true = sym clear ∙ is in cc);
  idle = λ is. absurd (let clash : Some task ≡ None = is in cc);
  chain = λ other is. chain_of other (ap (λ (o : Option TaskId). elim o [ None ↦ 0 | Some y ↦ y.0 ]) is);
  outputs = fits;
  first = h.first;
  size = size;
  values = values;
}
  where
    chain_of : (other : TaskId) → task.0 ≡ other.0 → IsChainAt program next t (thread_after e (outcomes.Next task) state x) other.0
    chain_of other same = record {
      known = subst (λ n. n < length program.tasks) same right.0;
      own = subst (λ n. (Rattle.prog_check.specs.Lookup.task_def program n).thread.0 ≡ t) same right.1;
      event = e;
      is = refl;
      served = serves;
      unfinished = clear;
    }

-- a thread after the end of a task of it
pub after_at : (program : Program) (taken next : ℕ → ℕ) (t : ℕ) (x : ThreadModel) (e : Event) (outcome : Outcome) (state : List ℕ) (left outs more clock : ℕ) →
    IsSoundAt program taken t x left outs clock → IsServedBy program next t x.held e → x.finished ≡ false → length state ≡ (thread_def program t).state →
    HaveBits state → IsRightOutcome program t outcome → more ≤ (thread_def program t).log → IsSoundAt program next t (thread_after e outcome state x) left more clock
after_at program taken next t x e (outcomes.Next task) state left outs more clock h serves clear size values right fits =
    next_at program taken next t x e task state left outs more clock h serves clear size values right fits
after_at program taken next t x e outcomes.Done state left outs more clock h serves clear size values right fits =
    over_at program taken next t x e state (x.served + 1) x.trapped x.expired left outs more clock h serves clear size values fits
after_at program taken next t x e (outcomes.Trap code) state left outs more clock h serves clear size values right fits =
    over_at program taken next t x e x.state x.served (x.trapped + 1) x.expired left outs more clock h serves clear h.size h.values fits

-- a thread whose chain expired
pub expired_at : (program : Program) (taken : ℕ → ℕ) (t : ℕ) (x : ThreadModel) (e : Event) (left outs clock : ℕ) →
    IsSoundAt program taken t x left outs clock → IsServedBy program taken t x.held e → x.finished ≡ false →
    IsSoundAt program taken t (expired_after e x) left outs clock
expired_at program taken t x e left outs clock h serves clear =
    over_at program taken taken t x e x.state x.served x.trapped (x.expired + 1) left outs outs clock h serves clear h.size h.values h.outputs
