-- A task starts: the first instruction may be fetched.
use Rattle.task_run.proofs.Common.{◌≡◌, ℕ, ◌+◌, ◌-◌, ◌<◌, false, List, [], length, arith, refl, ap, ◌∙◌, sym, subst, Option, Some, None, append-nil, Memory, origin_word, TaskId, Program, Sent, Effects, run, no_effects, IsAccepted, first_task, Pick, Model, Readings, IsSound, Saved, saved, IsPicked, execution_of, Assignment, assignment, whole, begun, with_effects, result, config_of, IsTrap, IsEndOf, Told, RunningIn, Finishing, worked_in}
use Rattle.task_run.specs.declared.ending.Ending.TheVariants as endings
use Rattle.task_run.proofs.Acts.{IsOwnTask, own_task}
use Rattle.task_run.proofs.Traps.{Keeps, begun-keeps, result-trap, worked-none, ends-trap, end-early}

-- a service that began without effects so far
pub begun-none : (pick : Pick) (x : Saved) (stamp : ℕ) → begun pick x ≡ with_effects stamp pick.thread.0 (no_effects x.state) (begun pick x)
begun-none pick x stamp =
    let z : Saved = begun pick x in
    let keeps : Keeps x z = begun-keeps pick x in
    ap (λ l. record z { outputs = l }) (sym (append-nil z.outputs)) ∙ ap (λ s. with_effects stamp pick.thread.0 (no_effects s) z) keeps.state

-- the task of the assignment
pub task-idle : (program : Program) (words : Memory) (m : Model) (pick : Pick) → IsPicked program words m pick → pick.running ≡ None →
    (assignment program m pick).task ≡ first_task program pick.thread.0
task-idle program words m pick p idle =
    ap (λ (r : Option TaskId). elim r as (λ _. ℕ) [ Some task ↦ task.0 | None ↦ first_task program pick.thread.0 ]) (sym p.running ∙ idle)

pub task-running : (program : Program) (words : Memory) (m : Model) (pick : Pick) (task : TaskId) → IsPicked program words m pick → pick.running ≡ Some task →
    (assignment program m pick).task ≡ task.0
task-running program words m pick task p runs =
    ap (λ (r : Option TaskId). elim r as (λ _. ℕ) [ Some task ↦ task.0 | None ↦ first_task program pick.thread.0 ]) (sym p.running ∙ runs)

-- before the first instruction
pub start_running : (program : Program) (readings : Readings) (m : Model) (pick : Pick) (stamp : ℕ) (task : TaskId) (y : Saved) (sends : List Sent) (s o v : ℕ) →
    IsAccepted program → IsSound program readings m → pick.thread.0 < length program.threads → (assignment program m pick).task ≡ task.0 → (assignment program m pick).late ≡ false →
    y ≡ begun pick (saved program m pick.thread.0) → sends ≡ [] → o ≡ origin_word pick.event.origin → v ≡ pick.event.value →
    RunningIn (record {
      program = program;
      x = saved program m pick.thread.0;
      a = assignment program m pick;
      pipes = m.pipes;
      pick = pick;
      stamp = stamp;
      ending = endings.Done;
      execution = execution_of task;
      y = y;
      sends = sends;
      s = s;
      o = o;
      v = v;
    })
start_running program readings m pick stamp task y sends s o v accepted sound known is early made unsent origin value =
    let x : Saved = saved program m pick.thread.0 in
    let a : Assignment = assignment program m pick in
    let own : IsOwnTask program pick.thread.0 a.task = own_task program readings m pick.thread.0 accepted sound known in
    let right = accepted.tasks a.task own.known in
    let all : a.limit - 0 ≡ a.limit = omega arith in
    record {
      effects = no_effects x.state;
      made = made ∙ begun-none pick x (stamp + 1);
      sent = unsent;
      rest = ap (λ k. run a.code a.given a.room k (config_of (execution_of task) (no_effects x.state))) all;
      come = refl;
      few = λ q. omega arith;
      left = right.limit_least;
      task = sym is;
      inside = right.code;
      early = early;
      unended = refl;
      origin = origin;
      value = value;
    }

-- a task that has trapped ends without effects
pub trapped_finishing : (p : Told) → p.a.late ≡ false → IsTrap (whole p.a p.x) → p.ending ≡ endings.Trapped → p.y ≡ begun p.pick p.x → p.sends ≡ [] →
    p.o ≡ origin_word p.pick.event.origin → p.v ≡ p.pick.event.value → Finishing p (worked_in p)
trapped_finishing p early trap is made unsent origin value =
    let none : result p.a p.x ≡ no_effects p.x.state = result-trap p.x p.a early trap in
    record {
      is = made ∙ worked-none p.x p.a p.pick p.stamp none;
      sent = unsent ∙ ap (λ (e : Effects). e.sends) (sym none);
      end = end-early p.x p.a p.ending early (subst (λ k. IsEndOf (whole p.a p.x) k) (sym is) (ends-trap (whole p.a p.x) trap));
      origin = origin;
      value = value;
    }
