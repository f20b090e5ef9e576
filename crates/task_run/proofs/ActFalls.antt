-- Within an instruction each access is one of those that are left.
use Rattle.task_run.proofs.Common.{◌≡◌, ℕ, suc, ◌+◌, ◌-◌, ◌%◌, ◌^◌, ◌<◌, ◌≤◌, true, false, List, [], ◌∷◌, ◌++◌, length, get_or, set, nat_lt, lt-ltb, le-ltb, ltb-true, ltb-false, arith, refl, ap, ◌∙◌, sym, inl, inr, subst, cases_Bool, Memory, answer, working, Buffer, Loading, Program, Sent, Act, Loads, Saves, Puts, Sends, Arms, Stops, LogFull, Cpu, Config, GoesOn, execute, advance, advance_with, has_room, sent_to, thread_def, pipe_def, IsAccepted, Pick, Model, pipe_of, HasShape, Saved, saved, Ending, Execution, Sending, ReadState, WriteState, ReadCount, StoreLog, WriteCount, LoadReader, LoadTaken, ReadWritten, StoreItem, WriteWritten, WriteArmed, WritePeriod, WriteStopped, TaskMachine, proceed, stepped, cpu_of, after, after_written, want, Assignment, assignment, whole, config_of, Told, told, RunningIn, Serving}
use Rattle.ink_base.specs.declared.limits.TheConstants as limits
use Rattle.fram_words.specs.Header as header
use Rattle.event_pipe.specs.Ring as by_counts
use Rattle.never_cut.specs.Cost.{reads}
use Rattle.task_run.specs.kept.Left.{Rest, left_in, before, writing, behind_run, config_at, run_rest, act_rest, send_rest, left}
use Rattle.task_run.proofs.Accesses.{machine_at}
use Rattle.task_run.proofs.PageFalls.{plain_left}
use Rattle.task_run.proofs.InstrFalls.{Falls}
use Rattle.task_run.proofs.Instrs.{state_is}
use Rattle.task_run.proofs.Rooms.{has_sent, room_is, room_left}
use Rattle.task_run.proofs.RunLefts.{config_now, proceed_left, trap_left, put_falls}
use Rattle.task_run.proofs.Runs.{IsAct, trap_from}
use Rattle.task_run.proofs.States.{outputs_length}
use Rattle.task_run.proofs.Words.{words-of_outputs, words-of_written}

module _ (program : Program) (m : Model) (words : Memory) (pick : Pick) (stamp : ℕ) (b : Buffer) (ending : Ending) (e : Execution) where
  abbrev a : Assignment
  a = assignment program m pick

  abbrev x : Saved
  x = saved program m pick.thread.0

  -- what is left behind the instruction
  abbrev next_rest : Rest
  next_rest = run_rest a x pick (e.executed + 1)

  -- the last access of an instruction, which is none of the block's writes
  last_read : (r : TaskMachine) (y : Saved) (sends : List Sent) (s o v : ℕ) (g : RunningIn (told program m r y sends s o v)) (fresh : r.buffer.copying ≡ Loading 0) (act : Act) →
      IsAct (told program m r y sends s o v) act → (next : Config) →
      execute act (assignment program m r.pick).given (assignment program m r.pick).room (config_of r.execution g.effects) ≡ GoesOn next → (cpu : Cpu) →
      (let z = run_rest (assignment program m r.pick) (saved program m r.pick.thread.0) r.pick (r.execution.executed + 1) in
      left_in r.buffer (before (reads 1) z) ≡ suc (left program m (proceed program r cpu)))
  last_read r y sends s o v g fresh act is next does cpu =
      let z : Rest = run_rest (assignment program m r.pick) (saved program m r.pick.thread.0) r.pick (r.execution.executed + 1) in
      plain_left r.buffer (before (reads 1) z) z fresh (omega arith) refl refl ∙ ap (λ n. suc n) (proceed_left program m r y sends s o v g fresh act is next does cpu)

  pub fall-read_state : (c n : ℕ) → Serving program words m (machine_at pick stamp b ending e (ReadState c n)) → Falls program m words (machine_at pick stamp b ending e (ReadState c n))
  fall-read_state c n h =
      let r : TaskMachine = machine_at pick stamp b ending e (ReadState c n) in
      let g = h.progress.0.running in
      let within : n < length g.effects.state = subst (λ (l : List ℕ). n < length l) (state_is (told program m r h.y h.sends h.s h.o h.v) g) h.progress.1 in
      last_read r h.y h.sends h.s h.o h.v g h.ready (Loads c n) h.progress.0.is_act (config_of (stepped e (advance_with (cpu_of e) c (get_or g.effects.state n 0 % 2 ^ 32))) g.effects)
      (rw (lt-ltb n (length g.effects.state) within) refl) (advance_with (cpu_of e) c (answer words (want program r) % 2 ^ 32))

  pub fall-write_state : (n w : ℕ) → Serving program words m (machine_at pick stamp b ending e (WriteState n w)) → Falls program m words (machine_at pick stamp b ending e (WriteState n w))
  fall-write_state n w h =
      let r : TaskMachine = machine_at pick stamp b ending e (WriteState n w) in
      let g = h.progress.0.running in
      let within : n < length g.effects.state = subst (λ (l : List ℕ). n < length l) (state_is (told program m r h.y h.sends h.s h.o h.v) g) h.progress.1 in
      put_falls program m words r (header.state n) (answer words (want program r)) (proceed program r (advance (cpu_of e))) next_rest h.ready (omega arith) refl refl λ fresh.
      proceed_left program m r h.y h.sends h.s h.o h.v g fresh (Saves n w) h.progress.0.is_act
      (config_of (stepped e (advance (cpu_of e))) (record (g.effects) { state = set g.effects.state n w })) (rw (lt-ltb n (length g.effects.state) within) refl) (advance (cpu_of e))

  -- the number of outputs was read
  count_falls : (w : ℕ) (h : Serving program words m (machine_at pick stamp b ending e (ReadCount w))) →
      left program m (machine_at pick stamp b ending e (ReadCount w)) ≡ suc (left program m (after program (machine_at pick stamp b ending e (ReadCount w)) (ReadCount w) (length h.y.outputs)))
  count_falls w h =
      let r : TaskMachine = machine_at pick stamp b ending e (ReadCount w) in
      let p : Told = told program m r h.y h.sends h.s h.o h.v in
      let g = h.progress.running in
      let log : ℕ = (thread_def program pick.thread.0).log in
      let room : a.room.log ≡ log - length x.outputs = refl in
      let count : length h.y.outputs ≡ length x.outputs + length g.effects.outs = outputs_length p g in
      let outs : length (config_at a x e.executed).effects.outs ≡ length g.effects.outs =
      ap (λ (k : Config). length k.effects.outs) (config_now program m r h.y h.sends h.s h.o h.v g h.ready)
      in
      elim (cases_Bool (nat_lt (length h.y.outputs) log)) [
        | inl t ↦
            let below : length h.y.outputs < log = ltb-true (length h.y.outputs) log t in
            let test : nat_lt (length (config_at a x e.executed).effects.outs) a.room.log ≡ true = lt-ltb (length (config_at a x e.executed).effects.outs) a.room.log (omega arith) in
            rw (t, test) (plain_left b (act_rest a x pick e (writing 3 header.outputs)) (act_rest a x pick e (writing 2 header.outputs)) h.ready (omega arith) refl refl)
        | inr f ↦
            let full : log ≤ length h.y.outputs = ltb-false (length h.y.outputs) log f in
            let test : nat_lt (length (config_at a x e.executed).effects.outs) a.room.log ≡ false = le-ltb (length (config_at a x e.executed).effects.outs) a.room.log (omega arith) in
            let no_room : nat_lt (length g.effects.outs) a.room.log ≡ false = le-ltb (length g.effects.outs) a.room.log (omega arith) in
            let behind : Rest = behind_run (whole a x) pick in
            rw (f, test)
            (plain_left b (before (reads 1) behind) behind h.ready (omega arith) refl refl
            ∙ ap (λ n. suc n) (trap_left program m r h.ready (trap_from p g (Puts w) h.progress.is_act LogFull (rw no_room refl))))
      ]

  pub fall-read_count : (w : ℕ) → Serving program words m (machine_at pick stamp b ending e (ReadCount w)) → Falls program m words (machine_at pick stamp b ending e (ReadCount w))
  fall-read_count w h =
      let r : TaskMachine = machine_at pick stamp b ending e (ReadCount w) in
      count_falls w h ∙ ap (λ n. suc (left program m (after program r (ReadCount w) n))) (sym (h.buffered.words 9 ∙ words-of_outputs h.y h.s h.o h.v))

  pub fall-store_log : (n w : ℕ) → Serving program words m (machine_at pick stamp b ending e (StoreLog n w)) → Falls program m words (machine_at pick stamp b ending e (StoreLog n w))
  fall-store_log n w h = plain_left b (act_rest a x pick e (writing 2 header.outputs)) (act_rest a x pick e (writing 1 header.outputs)) h.ready (omega arith) refl refl

  pub fall-write_count : (k : ℕ) → Serving program words m (machine_at pick stamp b ending e (WriteCount k)) → Falls program m words (machine_at pick stamp b ending e (WriteCount k))
  fall-write_count k h =
      let r : TaskMachine = machine_at pick stamp b ending e (WriteCount k) in
      let w : ℕ = h.progress.0 in
      let executing = h.progress.1 in
      let g = executing.running in
      let count : length h.y.outputs ≡ length x.outputs + length g.effects.outs = outputs_length (told program m r h.y h.sends h.s h.o h.v) g in
      let room : length g.effects.outs < a.room.log = let lt : length h.y.outputs < length x.outputs + a.room.log = h.progress.3 in omega arith in
      put_falls program m words r header.outputs (answer words (want program r)) (proceed program r (advance (cpu_of e))) next_rest h.ready (omega arith) refl refl λ fresh.
      proceed_left program m r h.y h.sends h.s h.o h.v g fresh (Puts w) executing.is_act
      (config_of (stepped e (advance (cpu_of e))) (record (g.effects) { outs = g.effects.outs ++ w ∷ [] })) (rw (lt-ltb (length g.effects.outs) a.room.log room) refl) (advance (cpu_of e))

  -- an access of a send before the pipe's counts are known
  send_falls : (q full room : ℕ) → b.copying ≡ Loading 0 → left_in b (send_rest a x pick e q (suc full) (suc room)) ≡ suc (left_in b (send_rest a x pick e q full room))
  send_falls q full room fresh =
      elim (cases_Bool (has_room a.room q (config_at a x e.executed).effects.sends)) [
        | inl t ↦ rw t (plain_left b (act_rest a x pick e (writing (suc room) (header.written q))) (act_rest a x pick e (writing room (header.written q))) fresh (omega arith) refl refl)
        | inr f ↦ rw f (plain_left b (act_rest a x pick e (reads (suc full))) (act_rest a x pick e (reads full)) fresh (omega arith) refl refl)
      ]

  pub fall-load_reader : (s : Sending) → Serving program words m (machine_at pick stamp b ending e (LoadReader s)) → Falls program m words (machine_at pick stamp b ending e (LoadReader s))
  fall-load_reader s h = send_falls s.pipe 2 4 h.ready

  pub fall-load_taken : (s : Sending) (commit : ℕ) → Serving program words m (machine_at pick stamp b ending e (LoadTaken s commit)) →
      Falls program m words (machine_at pick stamp b ending e (LoadTaken s commit))
  fall-load_taken s commit h = send_falls s.pipe 1 3 h.ready

  -- the count of written items was read
  written_falls : (s : Sending) (taken : ℕ) → HasShape program m → (h : Serving program words m (machine_at pick stamp b ending e (ReadWritten s taken))) →
      left program m (machine_at pick stamp b ending e (ReadWritten s taken))
      ≡ suc (left program m (after_written program (machine_at pick stamp b ending e (ReadWritten s taken)) s taken (h.y.written s.pipe)))
  written_falls s taken shape h =
      let r : TaskMachine = machine_at pick stamp b ending e (ReadWritten s taken) in
      let q : ℕ = s.pipe in
      let to = h.progress.0 in
      let g = to.executing.running in
      let sent = has_sent program m r h.y h.sends h.s h.o h.v q shape g to.pipe to.writer in
      let places : ℕ = (pipe_def program q).places in
      let written : ℕ = h.y.written q in
      let taken_is : taken ≡ (pipe_of m q).taken = h.progress.1 in
      let same : has_room a.room q g.effects.sends ≡ by_counts.has_room places written taken =
      room_is program m q written taken (sent_to q g.effects.sends) to.pipe taken_is sent.written
      in
      let test : has_room a.room q (config_at a x e.executed).effects.sends ≡ by_counts.has_room places written taken =
      ap (λ (k : Config). has_room a.room q k.effects.sends) (config_now program m r h.y h.sends h.s h.o h.v g h.ready) ∙ same
      in
      elim (cases_Bool (by_counts.has_room places written taken)) [
        | inl t ↦ rw (t, test ∙ t) (plain_left b (act_rest a x pick e (writing 3 (header.written q))) (act_rest a x pick e (writing 2 (header.written q))) h.ready (omega arith) refl refl)
        | inr f ↦ rw (f, test ∙ f)
            (last_read r h.y h.sends h.s h.o h.v g h.ready (Sends q s.register s.value) to.executing.is_act (config_of (stepped e (advance_with (cpu_of e) s.register 0)) g.effects)
            (rw (same, f) refl) (advance_with (cpu_of e) s.register 0))
      ]

  pub fall-read_written : (s : Sending) (taken : ℕ) → IsAccepted program → HasShape program m → Serving program words m (machine_at pick stamp b ending e (ReadWritten s taken)) →
      Falls program m words (machine_at pick stamp b ending e (ReadWritten s taken))
  fall-read_written s taken accepted shape h =
      let r : TaskMachine = machine_at pick stamp b ending e (ReadWritten s taken) in
      let known : s.pipe < length program.pipes = h.progress.0.pipe in
      let few : length program.pipes ≤ limits.PIPES = accepted.counts.pipes in
      let found : working words pick.thread.0 b (header.written s.pipe) ≡ h.y.written s.pipe =
      h.buffered.words (header.written s.pipe) ∙ words-of_written h.y h.s h.o h.v s.pipe (omega arith)
      in
      written_falls s taken shape h ∙ ap (λ n. suc (left program m (after_written program r s taken n))) (sym found)

  pub fall-store_item : (s : Sending) (written : ℕ) → Serving program words m (machine_at pick stamp b ending e (StoreItem s written)) →
      Falls program m words (machine_at pick stamp b ending e (StoreItem s written))
  fall-store_item s written h =
      plain_left b (act_rest a x pick e (writing 2 (header.written s.pipe))) (act_rest a x pick e (writing 1 (header.written s.pipe))) h.ready (omega arith) refl refl

  pub fall-write_written : (s : Sending) (written : ℕ) → HasShape program m → Serving program words m (machine_at pick stamp b ending e (WriteWritten s written)) →
      Falls program m words (machine_at pick stamp b ending e (WriteWritten s written))
  fall-write_written s written shape h =
      let r : TaskMachine = machine_at pick stamp b ending e (WriteWritten s written) in
      let q : ℕ = s.pipe in
      let placing = h.progress.0 in
      let to = placing.sending in
      let g = to.executing.running in
      let sent = has_sent program m r h.y h.sends h.s h.o h.v q shape g to.pipe to.writer in
      let item : Sent = record { pipe = record { 0 = q }; value = s.value } in
      let next : Cpu = advance_with (cpu_of e) s.register 1 in
      let room : has_room a.room q g.effects.sends ≡ true = room_left program m q written (sent_to q g.effects.sends) to.pipe placing.room (placing.count ∙ sent.written) in
      put_falls program m words r (header.written q) (answer words (want program r)) (proceed program r next) next_rest h.ready (omega arith) refl refl λ fresh.
      proceed_left program m r h.y h.sends h.s h.o h.v g fresh (Sends q s.register s.value) to.executing.is_act
      (config_of (stepped e next) (record (g.effects) { sends = g.effects.sends ++ item ∷ [] })) (rw room refl) next

  pub fall-write_armed : (timer delay period : ℕ) → Serving program words m (machine_at pick stamp b ending e (WriteArmed timer delay period)) →
      Falls program m words (machine_at pick stamp b ending e (WriteArmed timer delay period))
  fall-write_armed timer delay period h =
      let r : TaskMachine = machine_at pick stamp b ending e (WriteArmed timer delay period) in
      put_falls program m words r (header.due timer) (answer words (want program r)) (machine_at pick stamp b ending e (WritePeriod timer period))
      (act_rest a x pick e (writing 1 (header.period timer))) h.ready (omega arith) refl refl λ fresh. refl

  pub fall-write_period : (timer period : ℕ) → Serving program words m (machine_at pick stamp b ending e (WritePeriod timer period)) →
      Falls program m words (machine_at pick stamp b ending e (WritePeriod timer period))
  fall-write_period timer period h =
      let r : TaskMachine = machine_at pick stamp b ending e (WritePeriod timer period) in
      let half = h.progress in
      let arming = half.arming in
      put_falls program m words r (header.period timer) (answer words (want program r)) (proceed program r (advance (cpu_of e))) next_rest h.ready (omega arith) refl refl λ fresh.
      proceed_left program m r half.before h.sends h.s h.o h.v arming.executing.running fresh (Arms timer half.delay period) arming.executing.is_act _ refl (advance (cpu_of e))

  pub fall-write_stopped : (timer : ℕ) → Serving program words m (machine_at pick stamp b ending e (WriteStopped timer)) → Falls program m words (machine_at pick stamp b ending e (WriteStopped timer))
  fall-write_stopped timer h =
      let r : TaskMachine = machine_at pick stamp b ending e (WriteStopped timer) in
      put_falls program m words r (header.due timer) (answer words (want program r)) (proceed program r (advance (cpu_of e))) next_rest h.ready (omega arith) refl refl λ fresh.
      proceed_left program m r h.y h.sends h.s h.o h.v h.progress.0.running fresh (Stops timer) h.progress.0.is_act _ refl (advance (cpu_of e))
