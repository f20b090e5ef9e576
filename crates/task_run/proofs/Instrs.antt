-- An instruction is fetched, and begins.
use Rattle.task_run.proofs.Common.{◌≡◌, ℕ, ◌<◌, List, length, refl, ap, ◌∙◌, sym, inl, inr, subst, nat_lt, Some, ltb-true, cases_Bool, Code, Memory, Buffer, Act, Sets, Goes, Loads, Saves, Puts, Sends, Arms, Stops, Continues, Ends, Traps, TrapCode, Index, Program, Sent, Cpu, act_of, GoesOn, HasTrapped, execute, advance_with, word_of_instr, decoded, thread_def, IsAccepted, Pick, Model, Readings, HasShape, IsSound, Saved, StandsPrivate, Ending, Execution, Fetch, ReadState, WriteState, ReadCount, LoadReader, WriteArmed, WriteStopped, WriteNext, TaskMachine, trap, proceed, stepped, cpu_of, after_act, after_fetch, instr_of, Assignment, assignment, config_of, Told, told, RunningIn, Serving}
use Rattle.task_isa.specs.Meaning.{instr_at}
use Rattle.task_isa.specs.declared.outcome.Outcome.TheVariants as outcomes
use Rattle.task_isa.proofs.Codes.{decoded-word}
use Rattle.task_run.specs.declared.ending.Ending.TheVariants as endings
use Rattle.task_run.proofs.Accesses.{machine_at, Steps, Holding, holding_load, serving_at}
use Rattle.task_run.proofs.Traps.{trap_serving, proceed_serving}
use Rattle.task_run.proofs.Acts.{Lands, task_lands, IsOwnTask, own_task}
use Rattle.task_run.proofs.Runs.{IsAct, going_same, trap_from, finish_from}

-- the working copy has the state of the run
pub state_is : (p : Told) (g : RunningIn p) → p.y.state ≡ g.effects.state
state_is p g = ap (λ (z : Saved). z.state) g.made

-- how the task ends as far as is known has no part in what holds
pub holding_end : (program : Program) (m : Model) (words : Memory) (r : TaskMachine) (ending : Ending) (y : Saved) (sends : List Sent) (s o v : ℕ) →
    Holding program words m r y sends s o v → Holding program words m (record r { ending = ending }) y sends s o v
holding_end program m words r ending y sends s o v h =
    record { picked = h.picked; stamp = h.stamp; buffered = h.buffered; fresh = h.fresh; logged = h.logged; sent = h.sent; pages = h.pages; size = h.size }

module _ (program : Program) (m : Model) (words : Memory) (r : TaskMachine) (y : Saved) (sends : List Sent) (s o v : ℕ)
    (stands : StandsPrivate words program m) (shape : HasShape program m) (h : Holding program words m r y sends s o v)
    (g : RunningIn (told program m r y sends s o v)) where
  -- an instruction without an access
  goes_serving : (act : Act) → IsAct (told program m r y sends s o v) act → (cpu : Cpu) →
      execute act (assignment program m r.pick).given (assignment program m r.pick).room (config_of r.execution g.effects) ≡ GoesOn (config_of (stepped r.execution cpu) g.effects) →
      cpu.at < length (assignment program m r.pick).code → Serving program words m (proceed program r cpu)
  goes_serving act is cpu goes inside =
      proceed_serving program m words r cpu y sends s o v stands shape h (going_same (told program m r y sends s o v) g act is cpu goes inside)

  -- one that traps
  pub traps_serving : (act : Act) → IsAct (told program m r y sends s o v) act → (code : TrapCode) →
      execute act (assignment program m r.pick).given (assignment program m r.pick).room (config_of r.execution g.effects) ≡ HasTrapped code →
      Serving program words m (trap r)
  traps_serving act is code traps =
      trap_serving program m words r stands shape h.picked h.stamp h.buffered.commit g.early (trap_from (told program m r y sends s o v) g act is code traps)

  -- an instruction begins
  pub begin_serving : (act : Act) → IsAct (told program m r y sends s o v) act →
      Lands program r.pick.thread.0 (length (assignment program m r.pick).code) r.execution.at act → Serving program words m (after_act program r act)
  begin_serving (Sets c n) is lands = goes_serving (Sets c n) is (advance_with (cpu_of r.execution) c n) refl lands
  begin_serving (Goes offset) is lands = goes_serving (Goes offset) is (record (cpu_of r.execution) { at = offset }) refl lands
  begin_serving (Loads c n) is lands =
      let same : length g.effects.state ≡ length y.state = ap length (sym (state_is (told program m r y sends s o v) g)) in
      elim (cases_Bool (nat_lt n (thread_def program r.pick.thread.0).state)) [
        | inl t ↦
            let within : n < length y.state = rw h.size (ltb-true n (thread_def program r.pick.thread.0).state t) in
            rw t (serving_at program m words r r.execution (ReadState c n) y sends s o v h (record { running = g; is_act = is; goes_on = lands }, within))
        | inr f ↦ rw f (traps_serving (Loads c n) is Index (rw (same, h.size, f) refl))
      ]
  begin_serving (Saves n k) is lands =
      let same : length g.effects.state ≡ length y.state = ap length (sym (state_is (told program m r y sends s o v) g)) in
      elim (cases_Bool (nat_lt n (thread_def program r.pick.thread.0).state)) [
        | inl t ↦
            let within : n < length y.state = rw h.size (ltb-true n (thread_def program r.pick.thread.0).state t) in
            rw t (serving_at program m words r r.execution (WriteState n k) y sends s o v h (record { running = g; is_act = is; goes_on = lands }, within))
        | inr f ↦ rw f (traps_serving (Saves n k) is Index (rw (same, h.size, f) refl))
      ]
  begin_serving (Puts n) is lands = serving_at program m words r r.execution (ReadCount n) y sends s o v h (record { running = g; is_act = is; goes_on = lands })
  begin_serving (Sends pipe c n) is lands =
      serving_at program m words r r.execution (LoadReader (record { pipe = pipe; register = c; value = n })) y sends s o v h
      (record { executing = record { running = g; is_act = is; goes_on = lands.0 }; pipe = lands.1; writer = lands.2 })
  begin_serving (Arms timer delay period) is lands =
      serving_at program m words r r.execution (WriteArmed timer delay period) y sends s o v h
      (record { executing = record { running = g; is_act = is; goes_on = lands.0 }; known = lands.1 })
  begin_serving (Stops timer) is lands =
      serving_at program m words r r.execution (WriteStopped timer) y sends s o v h (record { running = g; is_act = is; goes_on = lands.0 }, lands.1)
  begin_serving (Continues task) is lands =
      serving_at program m words (record r { ending = endings.Next task }) r.execution WriteNext y sends s o v
      (holding_end program m words r (endings.Next task) y sends s o v h)
      (finish_from (told program m r y sends s o v) g (Continues task) is (outcomes.Next (record { 0 = task })) (endings.Next task) refl refl)
  begin_serving Ends is lands =
      serving_at program m words r r.execution WriteNext y sends s o v h
      (finish_from (told program m r y sends s o v) g Ends is outcomes.Done r.ending refl g.unended)
  begin_serving (Traps code) is lands = traps_serving (Traps code) is code refl

  -- the word that is fetched is the next instruction's
  pub fetched : IsAccepted program → IsOwnTask program r.pick.thread.0 (assignment program m r.pick).task →
      decoded (words (Code r.execution.task.0 r.execution.at)) ≡ Some (instr_at (assignment program m r.pick).code r.execution.at)
  fetched accepted known =
      let a : Assignment = assignment program m r.pick in
      let word : words (Code r.execution.task.0 r.execution.at) ≡ word_of_instr (instr_at a.code r.execution.at) =
      ap (λ k. words (Code k r.execution.at)) g.task ∙ stands.code a.task r.execution.at known.known g.inside
      in ap (λ w. decoded w) word ∙ decoded-word (instr_at a.code r.execution.at) ((accepted.tasks a.task known.known).fits r.execution.at g.inside)

  pub fetch_serving : IsAccepted program → (readings : Readings) → IsSound program readings m →
      Serving program words m (after_fetch program r (instr_of (decoded (words (Code r.execution.task.0 r.execution.at)))))
  fetch_serving accepted readings sound =
      let a : Assignment = assignment program m r.pick in
      let known : IsOwnTask program r.pick.thread.0 a.task = own_task program readings m r.pick.thread.0 accepted sound h.picked.known in
      subst (λ found. Serving program words m (after_fetch program r (instr_of found))) (sym (fetched accepted known))
      (begin_serving (act_of (instr_at a.code r.execution.at) a.given (cpu_of r.execution)) refl
      (subst (λ t. Lands program t (length a.code) r.execution.at (act_of (instr_at a.code r.execution.at) a.given (cpu_of r.execution))) known.own
      (task_lands program a.task r.execution.at a.given (cpu_of r.execution) accepted known.known refl g.inside)))

pub step-fetch : (program : Program) (m : Model) (words : Memory) (pick : Pick) (stamp : ℕ) (b : Buffer) (ending : Ending) (e : Execution) (readings : Readings) →
    IsAccepted program → StandsPrivate words program m → IsSound program readings m →
    Serving program words m (machine_at pick stamp b ending e Fetch) → Steps program m words (machine_at pick stamp b ending e Fetch)
step-fetch program m words pick stamp b ending e readings accepted stands sound h =
    let r : TaskMachine = machine_at pick stamp b ending e Fetch in
    fetch_serving program m words r h.y h.sends h.s h.o h.v stands sound.shape (holding_load program m words r h h.ready) h.progress accepted readings sound
