-- Each access of a task keeps what the words stand for, and what the registers tell.
use Rattle.task_run.proofs.Common.{◌≡◌, ℕ, ◌+◌, ◌*◌, ◌/◌, ◌^◌, Bool, false, length, arith, refl, ap, sym, inl, inr, subst, if◌then◌else◌, false≢true, cases_Bool, Place, Code, Log, Memory, Load, Store, origin_word, ring_index, Buffer, IsUnderWay, put_access, Program, sent_to, pipe_def, Pick, Model, Readings, Saved, saved, Background, armed, Ending, Execution, Sending, Phase, WriteFirst, WriteOrigin, WriteValue, WriteTaken, ReadPeriod, WriteDue, Resume, Fetch, ReadState, WriteState, ReadCount, StoreLog, WriteCount, LoadReader, LoadTaken, ReadWritten, StoreItem, WriteWritten, WriteArmed, WritePeriod, WriteStopped, WriteNext, WriteFinished, ReadTotal, WriteTotal, WriteStamp, StoreCommit, StoreAck, StoreEmpty, Over, TaskMachine, next_by, total_word, want, is_over, device, told, IsReady, Serving, KnowsAt, KeepsAll, EveryTaskCommits}
use Rattle.task_run.specs.Actions as actions
use Rattle.task_run.proofs.Accesses.{machine_at}
use Rattle.task_run.proofs.Kept.{log_step_private, log_step_kernel, ring_step_private, ring_step_kernel}
use Rattle.task_run.proofs.Events.{step-first, step-origin, step-value}
use Rattle.task_run.proofs.Devices.{step-taken, step-period, step-due}
use Rattle.task_run.proofs.Resumes.{step-resume}
use Rattle.task_run.proofs.Instrs.{step-fetch}
use Rattle.task_run.proofs.States.{outputs_length, step-read_state, step-write_state, step-read_count, step-store_log, step-write_count}
use Rattle.task_run.proofs.Rooms.{has_sent, item_apart}
use Rattle.task_run.proofs.Sendings.{step-load_reader, step-load_taken, step-read_written, step-store_item, step-write_written}
use Rattle.task_run.proofs.Settings.{step-write_armed, step-write_period, step-write_stopped}
use Rattle.task_run.proofs.Ends.{step-next, step-finished, step-read_total, step-write_total, step-stamp}
use Rattle.task_run.proofs.Keeping.{IsCalmly, put_calmly, before_keeps, commit_keeps, ack_keeps, release_keeps}

module _ (program : Program) (readings : Readings) (words : Memory) (m : Model) (pick : Pick) (stamp : ℕ) (b : Buffer) (ending : Ending) (e : Execution)
    (g : Background program readings words m) where
  -- an access of a write
  writes : (phase : Phase) (u v : ℕ) → Serving program words m (machine_at pick stamp b ending e phase) → IsUnderWay words pick.thread.0 b (u / 8) →
      IsCalmly program words m (put_access pick.thread.0 b u v)
  writes phase u v h under = put_calmly program words m pick.thread.0 b u v h.buffered.commit under g.private g.shared

  -- a load
  loads : (place : Place) → IsCalmly program words m (Load place)
  loads place = record { private = g.private; shared = g.shared; allowed = tt; copies = λ t w. refl }

  -- a chain goes on by a load, or ends by a write
  resume_calmly : Serving program words m (machine_at pick stamp b ending e Resume) → IsCalmly program words m (want program (machine_at pick stamp b ending e Resume))
  resume_calmly h =
      let r : TaskMachine = machine_at pick stamp b ending e Resume in
      let late : Bool = actions.is_late program r in
      elim (cases_Bool late) [
        | inl is ↦
            let under = subst (λ (a : actions.Action). IsReady words pick.thread.0 b a) (ap (λ c. if c then actions.Put 1 0 else actions.fetch r) is) h.ready in
            rw is (writes Resume 1 0 h under)
        | inr is ↦ rw is (loads (Code e.task.0 e.at))
      ]

  -- an output behind the committed ones
  log_calmly : (n v : ℕ) → Serving program words m (machine_at pick stamp b ending e (StoreLog n v)) →
      IsCalmly program words m (Store (Log pick.thread.0 n) ((stamp + 1) * 2 ^ 32 + v))
  log_calmly n v h =
      let t : ℕ = pick.thread.0 in
      let x : Saved = saved program m t in
      let run = h.progress.0.running in
      let count : length h.y.outputs ≡ length x.outputs + length run.effects.outs =
      outputs_length (told program m (machine_at pick stamp b ending e (StoreLog n v)) h.y h.sends h.s h.o h.v) run
      in
      let at : n ≡ length h.y.outputs = h.progress.1 in
      let word : ℕ = (stamp + 1) * 2 ^ 32 + v in
      record {
        private = log_step_private program words m t n word (omega arith) g.private;
        shared = log_step_kernel program words m t n word g.shared;
        allowed = tt;
        copies = λ u w. refl;
      }

  -- an item behind those of its pipe
  item_calmly : (s : Sending) (written : ℕ) → Serving program words m (machine_at pick stamp b ending e (StoreItem s written)) →
      IsCalmly program words m (actions.sending program s written)
  item_calmly s written h =
      let r : TaskMachine = machine_at pick stamp b ending e (StoreItem s written) in
      let q : ℕ = s.pipe in
      let to = h.progress.sending in
      let run = to.executing.running in
      let sent = has_sent program m r h.y h.sends h.s h.o h.v q g.sound.shape run to.pipe to.writer in
      record {
        private = ring_step_private program words m q (ring_index (pipe_def program q).places written) s.value
            (λ k within. item_apart program m h.y h.sends q k written (sent_to q run.effects.sends) sent h.progress.count h.progress.room within) g.private;
        shared = ring_step_kernel program words m q (ring_index (pipe_def program q).places written) s.value g.shared;
        allowed = tt;
        copies = λ u w. refl;
      }

  keeps : (phase : Phase) → KnowsAt program words m (machine_at pick stamp b ending e phase) phase → is_over phase ≡ false →
      KeepsAll program readings words m (machine_at pick stamp b ending e phase)
  keeps WriteFirst h more =
      before_keeps program readings words m pick stamp b ending e WriteFirst tt (writes WriteFirst 2 pick.time h h.ready)
      (step-first program readings m words pick stamp b ending e h)
  keeps WriteOrigin h more =
      before_keeps program readings words m pick stamp b ending e WriteOrigin tt (writes WriteOrigin 3 (origin_word pick.event.origin) h h.ready)
      (step-origin program readings m words pick stamp b ending e h)
  keeps WriteValue h more =
      before_keeps program readings words m pick stamp b ending e WriteValue tt (writes WriteValue 4 pick.event.value h h.ready)
      (step-value program readings m words pick stamp b ending e g.accepted g.sound h)
  keeps WriteTaken h more =
      let r : TaskMachine = machine_at pick stamp b ending e WriteTaken in
      before_keeps program readings words m pick stamp b ending e WriteTaken tt (writes WriteTaken (18 + device r) (pick.taken + 1) h h.ready)
      (step-taken program readings m words pick stamp b ending e g.accepted g.sound h)
  keeps ReadPeriod h more =
      before_keeps program readings words m pick stamp b ending e ReadPeriod tt (loads _) (step-period program readings m words pick stamp b ending e g.accepted g.sound h)
  keeps (WriteDue w) h more =
      let r : TaskMachine = machine_at pick stamp b ending e (WriteDue w) in
      before_keeps program readings words m pick stamp b ending e (WriteDue w) tt (writes (WriteDue w) (26 + 2 * device r) w h h.ready)
      (step-due program readings m words pick stamp b ending e g.accepted g.sound w h)
  keeps Resume h more =
      before_keeps program readings words m pick stamp b ending e Resume tt (resume_calmly h) (step-resume program readings m words pick stamp b ending e g.accepted g.private g.sound h)
  keeps Fetch h more =
      before_keeps program readings words m pick stamp b ending e Fetch tt (loads _) (step-fetch program m words pick stamp b ending e readings g.accepted g.private g.sound h)
  keeps (ReadState c n) h more =
      before_keeps program readings words m pick stamp b ending e (ReadState c n) tt (loads _) (step-read_state program m words pick stamp b ending e c n g.private g.sound.shape h)
  keeps (WriteState n v) h more =
      let calmly = writes (WriteState n v) (48 + n) v h h.ready in
      before_keeps program readings words m pick stamp b ending e (WriteState n v) tt calmly (step-write_state program m words pick stamp b ending e n v calmly.private g.sound.shape h)
  keeps (ReadCount v) h more =
      before_keeps program readings words m pick stamp b ending e (ReadCount v) tt (loads _) (step-read_count program m words pick stamp b ending e v g.private g.sound.shape h)
  keeps (StoreLog n v) h more =
      before_keeps program readings words m pick stamp b ending e (StoreLog n v) tt (log_calmly n v h) (step-store_log program m words pick stamp b ending e n v h)
  keeps (WriteCount n) h more =
      let calmly = writes (WriteCount n) 9 n h h.ready in
      before_keeps program readings words m pick stamp b ending e (WriteCount n) tt calmly (step-write_count program m words pick stamp b ending e n calmly.private g.sound.shape h)
  keeps (LoadReader s) h more =
      before_keeps program readings words m pick stamp b ending e (LoadReader s) tt (loads _) (step-load_reader program m words pick stamp b ending e s h)
  keeps (LoadTaken s commit) h more =
      before_keeps program readings words m pick stamp b ending e (LoadTaken s commit) tt (loads _) (step-load_taken program m words pick stamp b ending e s commit g.accepted g.private h)
  keeps (ReadWritten s taken) h more =
      before_keeps program readings words m pick stamp b ending e (ReadWritten s taken) tt (loads _)
      (step-read_written program m words pick stamp b ending e s taken g.accepted g.private g.sound.shape h)
  keeps (StoreItem s written) h more =
      before_keeps program readings words m pick stamp b ending e (StoreItem s written) tt (item_calmly s written h) (step-store_item program m words pick stamp b ending e s written g.sound.shape h)
  keeps (WriteWritten s written) h more =
      let calmly = writes (WriteWritten s written) (10 + s.pipe) (written + 1) h h.ready in
      before_keeps program readings words m pick stamp b ending e (WriteWritten s written) tt calmly
      (step-write_written program m words pick stamp b ending e s written g.accepted calmly.private g.sound.shape h)
  keeps (WriteArmed timer delay period) h more =
      before_keeps program readings words m pick stamp b ending e (WriteArmed timer delay period) tt (writes (WriteArmed timer delay period) (26 + 2 * timer) (armed pick.time delay) h h.ready)
      (step-write_armed program m words pick stamp b ending e g.accepted timer delay period h)
  keeps (WritePeriod timer period) h more =
      let calmly = writes (WritePeriod timer period) (27 + 2 * timer) period h h.ready in
      before_keeps program readings words m pick stamp b ending e (WritePeriod timer period) tt calmly
      (step-write_period program m words pick stamp b ending e g.accepted timer period calmly.private g.sound.shape h)
  keeps (WriteStopped timer) h more =
      let calmly = writes (WriteStopped timer) (26 + 2 * timer) 0 h h.ready in
      before_keeps program readings words m pick stamp b ending e (WriteStopped timer) tt calmly
      (step-write_stopped program m words pick stamp b ending e g.accepted timer calmly.private g.sound.shape h)
  keeps WriteNext h more =
      before_keeps program readings words m pick stamp b ending e WriteNext tt (writes WriteNext 1 (next_by ending) h h.ready) (step-next program m words pick stamp b ending e h)
  keeps WriteFinished h more =
      before_keeps program readings words m pick stamp b ending e WriteFinished tt (writes WriteFinished 5 (pick.position + 1) h h.ready) (step-finished program m words pick stamp b ending e h)
  keeps ReadTotal h more =
      before_keeps program readings words m pick stamp b ending e ReadTotal tt (loads _) (step-read_total program m words pick stamp b ending e h)
  keeps (WriteTotal n) h more =
      before_keeps program readings words m pick stamp b ending e (WriteTotal n) tt (writes (WriteTotal n) (total_word ending) n h h.ready) (step-write_total program m words pick stamp b ending e n h)
  keeps WriteStamp h more =
      before_keeps program readings words m pick stamp b ending e WriteStamp tt (writes WriteStamp 0 (stamp + 1) h h.ready) (step-stamp program m words pick stamp b ending e h)
  keeps StoreCommit h more = commit_keeps program readings words m pick stamp b ending e g h
  keeps (StoreAck source count) h more = ack_keeps program readings words m pick stamp b ending e g source count h
  keeps StoreEmpty h more = release_keeps program readings words m pick stamp b ending e g h.0 h.1 h.2 h.3
  keeps Over h more = absurd (false≢true (sym more))

pub every_task_commits : EveryTaskCommits
every_task_commits program readings words m r g knows more =
    keeps program readings words m r.pick r.stamp r.buffer r.ending r.execution g r.phase knows more
