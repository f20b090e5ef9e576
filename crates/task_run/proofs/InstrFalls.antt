-- Each access of an instruction is one of those that are left.
use Rattle.task_run.proofs.Common.{◌≡◌, ℕ, suc, ◌+◌, ◌%◌, ◌^◌, true, false, cond, List, [], ◌∷◌, ◌++◌, length, get_or, set, nat_lt, arith, refl, ap, ◌∙◌, sym, inl, inr, cases_Bool, Code, Memory, answer, Loading, Program, Sent, Act, Sets, Goes, Loads, Saves, Puts, Sends, Arms, Stops, Continues, Ends, Traps, TrapCode, Index, LogFull, Cpu, Config, GoesOn, IsOver, HasTrapped, act_of, execute, advance, advance_with, has_room, decoded, thread_def, IsAccepted, Model, Readings, IsSound, Saved, saved, StandsPrivate, Phase, ReadState, WriteState, TaskMachine, trap, proceed, stepped, cpu_of, after_act, after_fetch, instr_of, want, take, Assignment, assignment, whole, config_of, Told, told, RunningIn}
use Rattle.fram_words.specs.Header as header
use Rattle.task_isa.specs.Meaning.{instr_at}
use Rattle.task_isa.specs.declared.outcome.Outcome.TheVariants as outcomes
use Rattle.never_cut.specs.Cost.{Spent, reads, acting}
use Rattle.task_run.specs.kept.Left.{Rest, left_in, before, writing, ending_rest, behind_run, config_at, run_rest, left}
use Rattle.task_run.proofs.Accesses.{Holding}
use Rattle.task_run.proofs.Acts.{IsOwnTask, own_task}
use Rattle.task_run.proofs.PageFalls.{left_same}
use Rattle.task_run.proofs.Instrs.{state_is, fetched}
use Rattle.task_run.proofs.RunLefts.{config_now, step_left, goes_left, nothing_left, proceed_left, trap_left}
use Rattle.task_run.proofs.Runs.{IsAct, step_from, trap_from}

-- an access is one of those that are left
abbrev pub Falls : Program → Model → Memory → TaskMachine → Type 0
Falls program m words r = left program m r ≡ suc (left program m (take program r (answer words (want program r))))

module _ (program : Program) (m : Model) (r : TaskMachine) (y : Saved) (sends : List Sent) (s o v : ℕ) (g : RunningIn (told program m r y sends s o v))
    (fresh : r.buffer.copying ≡ Loading 0) where
  abbrev a : Assignment
  a = assignment program m r.pick

  abbrev x : Saved
  x = saved program m r.pick.thread.0

  abbrev c : Config
  c = config_of r.execution g.effects

  abbrev p : Told
  p = told program m r y sends s o v

  abbrev next_rest : Rest
  next_rest = run_rest a x r.pick (r.execution.executed + 1)

  abbrev whole_behind : Rest
  whole_behind = behind_run (whole a x) r.pick

  -- an instruction without an access
  goes_falls : (act : Act) → IsAct p act → (next : Config) → execute act a.given a.room c ≡ GoesOn next → acting act a.room g.effects ≡ reads 0 → (cpu : Cpu) →
      left_in r.buffer (run_rest a x r.pick r.execution.executed) ≡ suc (left program m (proceed program r cpu))
  goes_falls act is next does acts cpu =
      goes_left program m r y sends s o v g fresh act is next does (reads 0) acts
      ∙ ap (λ n. suc n) (nothing_left program m r y sends s o v g fresh next_rest ∙ proceed_left program m r y sends s o v g fresh act is next does cpu)

  -- one that traps, after its fetch
  traps_falls : (act : Act) → IsAct p act → (code : TrapCode) → execute act a.given a.room c ≡ HasTrapped code → acting act a.room g.effects ≡ reads 0 →
      left_in r.buffer (run_rest a x r.pick r.execution.executed) ≡ suc (left program m (trap r))
  traps_falls act is code traps acts =
      step_left program m r y sends s o v g fresh act is (HasTrapped code) traps (reads 0) acts
      ∙ ap (λ n. suc n)
      (nothing_left program m r y sends s o v g fresh (before (reads 0) whole_behind)
      ∙ (nothing_left program m r y sends s o v g fresh whole_behind ∙ trap_left program m r fresh (trap_from p g act is code traps)))

  -- one that accesses a number of the state
  state_falls : (act : Act) → IsAct p act → (n : ℕ) → (next : Config) (spent : Spent) (phase : Phase) → length y.state ≡ (thread_def program r.pick.thread.0).state →
      (nat_lt n (length g.effects.state) ≡ true → execute act a.given a.room c ≡ GoesOn next) → (nat_lt n (length g.effects.state) ≡ true → acting act a.room g.effects ≡ spent) →
      (nat_lt n (length g.effects.state) ≡ false → execute act a.given a.room c ≡ HasTrapped Index) → (nat_lt n (length g.effects.state) ≡ false → acting act a.room g.effects ≡ reads 0) →
      left_in r.buffer (before spent next_rest) ≡ left program m (record r { phase = phase }) →
      left_in r.buffer (run_rest a x r.pick r.execution.executed)
      ≡ suc (left program m (cond (nat_lt n (thread_def program r.pick.thread.0).state) (record r { phase = phase }) (trap r)))
  state_falls act is n next spent phase size does acts traps none here =
      let same : (thread_def program r.pick.thread.0).state ≡ length g.effects.state = sym size ∙ ap length (state_is p g) in
      rw same
      elim (cases_Bool (nat_lt n (length g.effects.state))) [
        | inl t ↦ rw t (goes_left program m r y sends s o v g fresh act is next (does t) spent (acts t) ∙ ap (λ k. suc k) here)
        | inr f ↦ rw f (traps_falls act is Index (traps f) (none f))
      ]

  -- an instruction begins
  begin_falls : (act : Act) → IsAct p act → length y.state ≡ (thread_def program r.pick.thread.0).state →
      left_in r.buffer (run_rest a x r.pick r.execution.executed) ≡ suc (left program m (after_act program r act))
  begin_falls (Sets b n) is size = goes_falls (Sets b n) is (config_of (stepped r.execution (advance_with (cpu_of r.execution) b n)) g.effects) refl refl (advance_with (cpu_of r.execution) b n)
  begin_falls (Goes offset) is size =
      goes_falls (Goes offset) is (config_of (stepped r.execution (record (cpu_of r.execution) { at = offset })) g.effects) refl refl (record (cpu_of r.execution) { at = offset })
  begin_falls (Loads b n) is size =
      state_falls (Loads b n) is n (config_of (stepped r.execution (advance_with (cpu_of r.execution) b (get_or g.effects.state n 0 % 2 ^ 32))) g.effects) (reads 1) (ReadState b n) size
      (λ t. rw t refl) (λ t. rw t refl) (λ f. rw f refl) (λ f. rw f refl) refl
  begin_falls (Saves n w) is size =
      state_falls (Saves n w) is n (config_of (stepped r.execution (advance (cpu_of r.execution))) (record (g.effects) { state = set g.effects.state n w })) (writing 1 (header.state n)) (WriteState n w) size
      (λ t. rw t refl) (λ t. rw t refl) (λ f. rw f refl) (λ f. rw f refl) refl
  begin_falls (Puts w) is size =
      let now : config_at a x r.execution.executed ≡ c = config_now program m r y sends s o v g fresh in
      let test : nat_lt (length (config_at a x r.execution.executed).effects.outs) a.room.log ≡ nat_lt (length g.effects.outs) a.room.log =
      ap (λ (k : Config). nat_lt (length k.effects.outs) a.room.log) now
      in
      elim (cases_Bool (nat_lt (length g.effects.outs) a.room.log)) [
        | inl t ↦ rw (test, t)
            (goes_left program m r y sends s o v g fresh (Puts w) is (config_of (stepped r.execution (advance (cpu_of r.execution))) (record (g.effects) { outs = g.effects.outs ++ w ∷ [] }))
            (rw t refl) (writing 3 header.outputs) (rw t refl))
        | inr f ↦ rw (test, f)
            (step_left program m r y sends s o v g fresh (Puts w) is (HasTrapped LogFull) (rw f refl) (reads 1) (rw f refl)
            ∙ ap (λ n. suc n) (left_same r.buffer (before (reads 1) (before (reads 0) whole_behind)) (before (reads 1) whole_behind) (omega arith) refl refl))
      ]
  begin_falls (Sends q b w) is size =
      let now : config_at a x r.execution.executed ≡ c = config_now program m r y sends s o v g fresh in
      let test : has_room a.room q (config_at a x r.execution.executed).effects.sends ≡ has_room a.room q g.effects.sends =
      ap (λ (k : Config). has_room a.room q k.effects.sends) now
      in
      elim (cases_Bool (has_room a.room q g.effects.sends)) [
        | inl t ↦ rw (test, t)
            (goes_left program m r y sends s o v g fresh (Sends q b w) is
            (config_of (stepped r.execution (advance_with (cpu_of r.execution) b 1)) (record (g.effects) { sends = g.effects.sends ++ record { pipe = record { 0 = q }; value = w } ∷ [] }))
            (rw t refl) (writing 5 (header.written q)) (rw t refl))
        | inr f ↦ rw (test, f)
            (goes_left program m r y sends s o v g fresh (Sends q b w) is (config_of (stepped r.execution (advance_with (cpu_of r.execution) b 0)) g.effects) (rw f refl) (reads 3) (rw f refl))
      ]
  begin_falls (Arms j delay period) is size = goes_left program m r y sends s o v g fresh (Arms j delay period) is _ refl (record { accesses = 2; writes = header.due j ∷ header.period j ∷ [] }) refl
  begin_falls (Stops j) is size = goes_left program m r y sends s o v g fresh (Stops j) is _ refl (writing 1 (header.due j)) refl
  begin_falls (Continues task) is size =
      step_left program m r y sends s o v g fresh (Continues task) is (IsOver (outcomes.Next (record { 0 = task }))) refl (reads 0) refl
      ∙ ap (λ n. suc n)
      (nothing_left program m r y sends s o v g fresh (before (reads 0) whole_behind)
      ∙ (nothing_left program m r y sends s o v g fresh whole_behind
      ∙ ap (λ w. left_in r.buffer (behind_run w r.pick)) (sym (step_from p g (Continues task) is (IsOver (outcomes.Next (record { 0 = task }))) refl))))
  begin_falls Ends is size =
      step_left program m r y sends s o v g fresh Ends is (IsOver outcomes.Done) refl (reads 0) refl
      ∙ ap (λ n. suc n)
      (nothing_left program m r y sends s o v g fresh (before (reads 0) whole_behind)
      ∙ (nothing_left program m r y sends s o v g fresh whole_behind
      ∙ (ap (λ w. left_in r.buffer (behind_run w r.pick)) (sym (step_from p g Ends is (IsOver outcomes.Done) refl))
      ∙ ap (λ k. left_in r.buffer (ending_rest k r.pick.event)) (sym g.unended))))
  begin_falls (Traps code) is size = traps_falls (Traps code) is code refl refl

  -- the word that is fetched is the next instruction's
  pub fetch_falls : (words : Memory) → (readings : Readings) → IsAccepted program → StandsPrivate words program m → IsSound program readings m →
      Holding program words m r y sends s o v →
      left_in r.buffer (run_rest a x r.pick r.execution.executed) ≡ suc (left program m (after_fetch program r (instr_of (decoded (words (Code r.execution.task.0 r.execution.at))))))
  fetch_falls words readings accepted stands sound h =
      let known : IsOwnTask program r.pick.thread.0 a.task = own_task program readings m r.pick.thread.0 accepted sound h.picked.known in
      begin_falls (act_of (instr_at a.code r.execution.at) a.given (cpu_of r.execution)) refl h.size
      ∙ ap (λ k. suc (left program m (after_fetch program r (instr_of k)))) (sym (fetched program m words r y sends s o v stands sound.shape h g accepted known))
