-- A running chain goes on with its task, or ends expired.
use Rattle.task_run.proofs.Common.{◌≡◌, ℕ, Bool, true, false, refl, ap, ◌∙◌, sym, subst, inl, inr, arith, Option, Some, None, ◌&&◌, if◌then◌else◌, ForSome, cases_Bool, TaskId, Code, Memory, store, answer, place_in, working_mask, Buffer, put_access, Program, Effects, IsAccepted, thread_def, Pick, Model, ThreadModel, thread_of, is_running, is_overdue, Readings, IsSound, Saved, saved, StandsPrivate, IsPicked, Ending, Execution, Resume, WriteNext, TaskMachine, Assignment, assignment, rested, Finishing, worked_in, IsEnd, IsReady, told, RunningIn, Serving}
use Rattle.task_run.specs.declared.ending.Ending.TheVariants as endings
use Rattle.task_run.specs.Machine as machine
use Rattle.task_run.specs.Actions as actions
use Rattle.task_run.proofs.Accesses.{machine_at, Steps, put_step, holding_load, holding_put}
use Rattle.task_run.proofs.Instrs.{fetch_serving}
use Rattle.task_run.proofs.Words.{words-rested}
use Rattle.task_run.proofs.Traps.{begun-running, result-late, worked-none}
use Rattle.task_run.proofs.Starts.{task-running, start_running}
use Rattle.task_run.proofs.Ends.{rested_serving}

-- the registers tell of a running chain whether it is overdue
overdue_by : (expires : Option ℕ) (task : TaskId) (first time : ℕ) → actions.is_overdue expires (Some task) first time ≡ is_overdue expires first time
overdue_by None task first time = refl
overdue_by (Some ticks) task first time = refl

overdue_first : (expires : Option ℕ) (a b time : ℕ) → ForSome expires (λ ticks. a ≡ b) → is_overdue expires a time ≡ is_overdue expires b time
overdue_first None a b time same = refl
overdue_first (Some ticks) a b time same = ap (λ n. is_overdue (Some ticks) n time) (same ticks refl)

running-is : (x : ThreadModel) (task : TaskId) → x.running ≡ Some task → is_running x ≡ true
running-is x task is = ap (λ (r : Option TaskId). is_running (record x { running = r })) is

-- an idle thread isn't late
pub late-idle : (program : Program) (words : Memory) (m : Model) (pick : Pick) → IsPicked program words m pick → pick.running ≡ None → (assignment program m pick).late ≡ false
late-idle program words m pick p idle =
    let x : ThreadModel = thread_of m pick.thread.0 in
    ap (λ (r : Option TaskId). is_running (record x { running = r }) && is_overdue (thread_def program pick.thread.0).expires x.first pick.time) (sym p.running ∙ idle)

-- the registers tell whether a running chain has expired
pub late-running : (program : Program) (words : Memory) (m : Model) (pick : Pick) (task : TaskId) → IsPicked program words m pick → pick.running ≡ Some task →
    actions.is_overdue (thread_def program pick.thread.0).expires pick.running pick.first pick.time ≡ (assignment program m pick).late
late-running program words m pick task p runs =
    let x : ThreadModel = thread_of m pick.thread.0 in
    let expires : Option ℕ = (thread_def program pick.thread.0).expires in
    ap (λ r. actions.is_overdue expires r pick.first pick.time) runs
    ∙ (overdue_by expires task pick.first pick.time
    ∙ (overdue_first expires pick.first x.first pick.time (p.first task runs)
    ∙ sym (ap (λ b. b && is_overdue expires x.first pick.time) (running-is x task (sym p.running ∙ runs)))))

-- what an expired chain ends with
end-late : (x : Saved) (a : Assignment) → a.late ≡ true → IsEnd a x endings.Expired
end-late x a late = rw late refl

module _ (program : Program) (readings : Readings) (m : Model) (words : Memory) (pick : Pick) (stamp : ℕ) (b : Buffer) (ending : Ending) (e : Execution)
    (accepted : IsAccepted program) (stands : StandsPrivate words program m) (sound : IsSound program readings m)
    (h : Serving program words m (machine_at pick stamp b ending e Resume)) where
  abbrev x : Saved
  x = saved program m pick.thread.0

  abbrev r : TaskMachine
  r = machine_at pick stamp b ending e Resume

  abbrev late : Bool
  late = actions.is_late program r

  late_same : late ≡ (assignment program m pick).late
  late_same = late-running program words m pick h.progress.0 h.picked h.progress.1

  -- the end of an expired chain
  expires_as : late ≡ true → Finishing (told program m (machine_at pick stamp b endings.Expired e WriteNext) h.y h.sends h.s h.o h.v)
      (worked_in (told program m (machine_at pick stamp b endings.Expired e WriteNext) h.y h.sends h.s h.o h.v))
  expires_as is =
      let a : Assignment = assignment program m pick in
      let over : a.late ≡ true = sym late_same ∙ is in
      let none = result-late x a over in
      record {
        is = h.progress.2 ∙ (sym (begun-running pick x h.progress.0 h.progress.1) ∙ worked-none x a pick stamp none);
        sent = h.progress.3 ∙ ap (λ (f : Effects). f.sends) (sym none);
        end = end-late x a over;
        origin = h.progress.6;
        value = h.progress.7;
      }

  -- the first instruction of the next task
  pub goes_on : late ≡ false → RunningIn (told program m r h.y h.sends h.s h.o h.v)
  goes_on is =
      let task : TaskId = h.progress.0 in
      let start = start_running program readings m pick stamp task h.y h.sends h.s h.o h.v accepted sound h.picked.known
      (task-running program words m pick task h.picked h.progress.1) (sym late_same ∙ is) (h.progress.2 ∙ sym (begun-running pick x task h.progress.1)) h.progress.3 h.progress.6 h.progress.7
      in subst (λ k. RunningIn (told program m (machine_at pick stamp b k e Resume) h.y h.sends h.s h.o h.v)) (sym h.progress.4)
      (subst (λ run. RunningIn (told program m (machine_at pick stamp b endings.Done run Resume) h.y h.sends h.s h.o h.v)) (sym h.progress.5) start)

  resume_late : late ≡ true → Steps program m words r
  resume_late is =
      let word : ℕ = answer words (put_access pick.thread.0 b 1 0) in
      rw is
      (put_step program m words r 1 0 (machine.after_resume program r late word) h (omega arith) (λ c. rw is refl) λ dirty fresh.
      let n : Memory = store words (place_in pick.thread.0 (working_mask b) 1) 0 in
      subst (λ c. Serving program n m (machine.after_resume program r c word)) (sym is)
      (rested_serving program m n pick stamp b endings.Expired e n h.y h.sends h.s h.o h.v endings.Expired pick.event.origin pick.event.value refl tt
      (let held = holding_put program m words r 1 0 (rested h.y) h.sends h.s h.o h.v h dirty fresh (words-rested h.y h.s h.o h.v) h.logged h.sent h.size in
      record { picked = held.picked; stamp = held.stamp; buffered = held.buffered; fresh = held.fresh; logged = held.logged; sent = held.sent; size = held.size; pages = held.pages })
      (expires_as is)))

  resume_early : late ≡ false → Steps program m words r
  resume_early is =
      let fresh = subst (λ (a : actions.Action). IsReady words pick.thread.0 b a) (ap (λ c. if c then actions.Put 1 0 else actions.fetch r) is) h.ready in
      let word : ℕ = words (Code e.task.0 e.at) in
      rw is
      (subst (λ c. Serving program words m (machine.after_resume program r c word)) (sym is)
      (fetch_serving program m words r h.y h.sends h.s h.o h.v stands sound.shape (holding_load program m words r h fresh) (goes_on is) accepted readings sound))

  pub step-resume : Steps program m words r
  step-resume = elim (cases_Bool late) [ inl is ↦ resume_late is | inr is ↦ resume_early is ]
