-- A trap gives all writes up; an instruction that is done leads to the next one, or to the trap of the limit.
use Rattle.task_run.proofs.Common.{◌≡◌, ℕ, ◌+◌, ◌-◌, ◌<◌, ◌≤◌, true, false, List, [], length, get_or, arith, refl, ap, ◌∙◌, sym, inl, inr, subst, ltb-true, ltb-false, append-nil, nat_lt, Option, Some, None, cases_Bool, Event, Origin, TaskId, Commit, Memory, origin_word, no_writes, Program, Sent, Cpu, Effects, RunEnd, Ended, Trapped, GoesOn, run, task_end, no_effects, first_config, config_after, sent_to, task_def, Pick, Model, ScanModel, thread_of, pending_in, Saved, saved, StandsPrivate, StandsThread, HasShape, IsPicked, no_pages, Ending, WriteFirst, Fetch, WriteNext, TaskMachine, trap, phase_again, proceed, stepped, Assignment, assignment, whole, rings_of, AreSent, begun, consumed, with_effects, effects_of, result, worked, config_of, IsTrap, IsEnd, IsEndOf, Told, told, Again, Serving}
use Rattle.ink_base.specs.declared.event.Origin.TheVariants as origins
use Rattle.task_run.specs.declared.ending.Ending.TheVariants as endings
use Rattle.task_run.proofs.Accesses.{Holding, serving_at, unwritten}

-- what is in a pipe before anything is sent stands in its ring
pub unsent : (program : Program) (m : Model) (words : Memory) → StandsPrivate words program m → AreSent (rings_of words) program m.pipes []
unsent program m words stands = λ q k known within. stands.pipes q known k within

-- the event of a running chain is the pick's
pub running_event : (program : Program) (words : Memory) (m : Model) (pick : Pick) (task : TaskId) → IsPicked program words m pick → pick.running ≡ Some task →
    (thread_of m pick.thread.0).event ≡ Some pick.event
running_event program words m pick task p is =
    let running : (thread_of m pick.thread.0).running ≡ Some task = sym p.running ∙ is in
    let found : pending_in program m pick.thread.0 p.scan ≡ Some pick.event =
    subst (λ (o : Option ScanModel). (elim o as (λ x. Option Event) [ None ↦ None | Some scan ↦ pending_in program m pick.thread.0 scan ]) ≡ Some pick.event) p.scanned p.pending_is
    in rw (running, pending_in) at found

-- the words of a running chain's event are the pick's
pub chain_words : (program : Program) (words : Memory) (m : Model) (pick : Pick) (task : TaskId) (h : StandsThread words program m pick.thread.0) →
    IsPicked program words m pick → pick.running ≡ Some task → (h.origin ≡ origin_word pick.event.origin) × (h.value ≡ pick.event.value)
chain_words program words m pick task h p is = h.event pick.event (running_event program words m pick task p is)

-- where a service begins
pub begun-idle : (pick : Pick) (x : Saved) → pick.running ≡ None → begun pick x ≡ consumed pick.event.origin (record x { first = pick.time })
begun-idle pick x idle = rw idle refl

pub begun-running : (pick : Pick) (x : Saved) (task : TaskId) → pick.running ≡ Some task → begun pick x ≡ x
begun-running pick x task is = rw is refl

-- what an event's consumption leaves as it is
pub record Keeps (x y : Saved) : Type 0 where
  pub state : y.state ≡ x.state
  pub outputs : y.outputs ≡ x.outputs
  pub written : y.written ≡ x.written
  pub period : y.period ≡ x.period
  pub served : y.served ≡ x.served
  pub trapped : y.trapped ≡ x.trapped
  pub expired : y.expired ≡ x.expired

consumed-keeps : (origin : Origin) (time : ℕ) (x : Saved) → Keeps x (consumed origin (record x { first = time }))
consumed-keeps (origins.Source source count) time x = record { state = refl; outputs = refl; written = refl; period = refl; served = refl; trapped = refl; expired = refl }
consumed-keeps (origins.Pipe pipe item) time x = record { state = refl; outputs = refl; written = refl; period = refl; served = refl; trapped = refl; expired = refl }
consumed-keeps (origins.Timer timer deadline) time x = record { state = refl; outputs = refl; written = refl; period = refl; served = refl; trapped = refl; expired = refl }

pub begun-keeps : (pick : Pick) (x : Saved) → Keeps x (begun pick x)
begun-keeps pick x = by_running pick.running
  where
    by_running : (running : Option TaskId) → Keeps x (elim running [ Some task ↦ x | None ↦ consumed pick.event.origin (record x { first = pick.time }) ])
    by_running (Some task) = record { state = refl; outputs = refl; written = refl; period = refl; served = refl; trapped = refl; expired = refl }
    by_running None = consumed-keeps pick.event.origin pick.time x

-- a task that trapped leaves no effects
trapped_end : (limit : ℕ) (state : List ℕ) (w : RunEnd) → IsTrap w → effects_of (task_end limit state w) ≡ no_effects state
trapped_end limit state (Ended outcome effects left) ends = absurd ends
trapped_end limit state (Trapped code left) ends = refl

pub result-trap : (x : Saved) (a : Assignment) → a.late ≡ false → IsTrap (whole a x) → result a x ≡ no_effects x.state
result-trap x a early ends = rw early (trapped_end a.limit x.state (whole a x) ends)

pub result-late : (x : Saved) (a : Assignment) → a.late ≡ true → result a x ≡ no_effects x.state
result-late x a late = rw late refl

-- without effects the thread is as its service began
pub worked-none : (x : Saved) (a : Assignment) (pick : Pick) (stamp : ℕ) → result a x ≡ no_effects x.state → begun pick x ≡ worked x a pick stamp
worked-none x a pick stamp none =
    let z : Saved = begun pick x in
    let keeps : Keeps x z = begun-keeps pick x in
    ap (λ l. record z { outputs = l }) (sym (append-nil z.outputs))
    ∙ ap (λ s. with_effects (stamp + 1) pick.thread.0 (no_effects s) z) keeps.state
    ∙ ap (λ e. with_effects (stamp + 1) pick.thread.0 e z) (sym none)

pub ends-trap : (w : RunEnd) → IsTrap w → IsEndOf w endings.Trapped
ends-trap (Ended outcome effects left) ends = absurd ends
ends-trap (Trapped code left) ends = refl

-- the end of a service that has begun in time
pub end-early : (x : Saved) (a : Assignment) (ending : Ending) → a.late ≡ false → IsEndOf (whole a x) ending → IsEnd a x ending
end-early x a ending early ends = rw early ends

-- a trap: the working copy is the committed one again
module _ (program : Program) (m : Model) (words : Memory) (r : TaskMachine) (stands : StandsPrivate words program m) (shape : HasShape program m)
    (picked : IsPicked program words m r.pick) (stamp : r.stamp ≡ m.commits) (is : r.buffer.commit ≡ words (Commit r.pick.thread.0))
    (early : (assignment program m r.pick).late ≡ false) (ends : IsTrap (whole (assignment program m r.pick) (saved program m r.pick.thread.0))) where
  given_up : TaskMachine
  given_up = record r { buffer = no_writes r.buffer.commit; ending = endings.Trapped }

  held : let x = stands.threads r.pick.thread.0 picked.known in
      Holding program words m given_up (saved program m r.pick.thread.0) [] x.stamp x.origin x.value
  unfolding given_up
  held =
      let t : ℕ = r.pick.thread.0 in
      let x = stands.threads t picked.known in
      record {
        picked = picked;
        stamp = stamp;
        buffered = unwritten program m words t r.buffer.commit x is;
        fresh = refl;
        logged = x.log;
        sent = unsent program m words stands;
        size = shape.states t picked.known;
        pages = no_pages program t;
      }

  by_running : (running : Option TaskId) → r.pick.running ≡ running → Serving program words m (record given_up { phase = phase_again running })
  unfolding given_up held
  by_running None idle =
      let x = stands.threads r.pick.thread.0 picked.known in
      serving_at program m words given_up r.execution WriteFirst (saved program m r.pick.thread.0) [] x.stamp x.origin x.value held
      (record { idle = idle; early = early; is = refl; unsent = refl; before = Again ends })
  by_running (Some task) runs =
      let t : ℕ = r.pick.thread.0 in
      let x = stands.threads t picked.known in
      let y : Saved = saved program m t in
      let a : Assignment = assignment program m r.pick in
      let none : result a y ≡ no_effects y.state = result-trap y a early ends in
      let event = chain_words program words m r.pick task x picked runs in
      serving_at program m words given_up r.execution WriteNext y [] x.stamp x.origin x.value held
      (record {
        is = sym (begun-running r.pick y task runs) ∙ worked-none y a r.pick r.stamp none;
        sent = ap (λ (e : Effects). e.sends) (sym none);
        end = end-early y a endings.Trapped early (ends-trap (whole a y) ends);
        origin = event.0;
        value = event.1;
      })

  pub trap_serving : Serving program words m (trap r)
  unfolding given_up
  trap_serving = by_running r.pick.running refl

-- the run may go on from here
pub record Going (p : Told) (cpu : Cpu) : Type 0 where
  pub effects : Effects
  pub made : p.y ≡ with_effects (p.stamp + 1) p.pick.thread.0 effects (begun p.pick p.x)
  pub sent : p.sends ≡ effects.sends
  pub rest : run p.a.code p.a.given p.a.room (p.a.limit - (p.execution.executed + 1)) (config_of (stepped p.execution cpu) effects) ≡ whole p.a p.x
  pub come : config_after p.a.code p.a.given p.a.room (p.execution.executed + 1) (first_config p.x.state) ≡ GoesOn (config_of (stepped p.execution cpu) effects)
  pub few : (q : ℕ) → sent_to q effects.sends ≤ get_or p.a.room.pipes q 0
  pub task : p.execution.task.0 ≡ p.a.task
  pub inside : cpu.at < length p.a.code
  pub early : p.a.late ≡ false
  pub unended : p.ending ≡ endings.Done
  pub origin : p.o ≡ origin_word p.pick.event.origin
  pub value : p.v ≡ p.pick.event.value

-- an instruction is done
pub proceed_serving : (program : Program) (m : Model) (words : Memory) (r : TaskMachine) (cpu : Cpu) (y : Saved) (sends : List Sent) (s o v : ℕ) →
    StandsPrivate words program m → HasShape program m → Holding program words m r y sends s o v → Going (told program m r y sends s o v) cpu →
    Serving program words m (proceed program r cpu)
proceed_serving program m words r cpu y sends s o v stands shape h g =
    let a : Assignment = assignment program m r.pick in
    let x : Saved = saved program m r.pick.thread.0 in
    let done : ℕ = r.execution.executed + 1 in
    let same : (task_def program r.execution.task.0).limit ≡ a.limit = ap (λ k. (task_def program k).limit) g.task in
    rw same
    elim (cases_Bool (nat_lt done a.limit)) [
      | inl t ↦
          rw t (serving_at program m words r (stepped r.execution cpu) Fetch y sends s o v h (record {
            effects = g.effects;
            made = g.made;
            sent = g.sent;
            rest = g.rest;
            come = g.come;
            few = g.few;
            left = ltb-true done a.limit t;
            task = g.task;
            inside = g.inside;
            early = g.early;
            unended = g.unended;
            origin = g.origin;
            value = g.value;
          }))
      | inr f ↦
          let over : a.limit ≤ done = ltb-false done a.limit f in
          let none : a.limit - done ≡ 0 = omega arith in
          let ends : whole a x ≡ run a.code a.given a.room 0 (config_of (stepped r.execution cpu) g.effects) =
          sym g.rest ∙ ap (λ k. run a.code a.given a.room k (config_of (stepped r.execution cpu) g.effects)) none
          in rw f (trap_serving program m words r stands shape h.picked h.stamp h.buffered.commit g.early (subst (λ z. IsTrap z) (sym ends) tt))
    ]
