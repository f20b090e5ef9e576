-- The numbers of a task's registers are in their ranges.
use Rattle.task_run.proofs.Common.{◌≡◌, ℕ, ◌+◌, ◌*◌, ◌-◌, ◌^◌, ◌<◌, ◌≤◌, false, List, length, get_or, arith, refl, ap, ◌∙◌, sym, subst, Some, false≢true, TaskId, Memory, answer, Buffer, working, Program, Sent, number_of, sent_to, thread_def, pipe_def, Pick, Model, thread_of, pipe_of, task_at, rooms, Readings, Saved, saved, IsPicked, Background, IsServable, picked_event, Ending, Execution, Sending, Phase, WriteFirst, WriteOrigin, WriteValue, WriteTaken, ReadPeriod, WriteDue, Resume, Fetch, ReadState, WriteState, ReadCount, StoreLog, WriteCount, LoadReader, LoadTaken, ReadWritten, StoreItem, WriteWritten, WriteArmed, WritePeriod, WriteStopped, WriteNext, WriteFinished, ReadTotal, WriteTotal, WriteStamp, StoreCommit, StoreAck, StoreEmpty, Over, total_word, want, is_over, execution_of, FitsExecution, FitsPhase, FitsWord, FitsTask, assignment, total_of, told, RunningIn, SendingTo, Serving, Releasing, KnowsAt, EveryTaskFits}
use Rattle.ink_base.specs.declared.limits.TheConstants as limits
use Rattle.fram_words.specs.Header as header
use Rattle.never_cut.specs.Within.{Lasts}
use Rattle.task_run.proofs.Words.{words-of_total, words-of_written, words-of_period}
use Rattle.task_run.proofs.Accesses.{machine_at, picked_time}
use Rattle.task_run.proofs.Acts.{IsOwnTask, own_task}
use Rattle.task_run.proofs.SentItems.{room_at}
use Rattle.task_run.proofs.Rooms.{has_sent}
use Rattle.task_run.proofs.Sendings.{taken_found}
use Rattle.task_run.proofs.Limits.{execution_fits, position_fits, source_known, origin_fits, pipe_fits, timer_known, due_fits, period_fits, chain_fits, total_fits}

module _ (program : Program) (readings : Readings) (words : Memory) (m : Model) (pick : Pick) (stamp : ℕ) (b : Buffer) (ending : Ending) (e : Execution)
    (g : Background program readings words m) (few : Lasts 0 m) where
  commits_fit : m.commits + 1 < 2 ^ 32
  commits_fit = let r = few.commits in omega arith

  serving_fits : (phase : Phase) → Serving program words m (machine_at pick stamp b ending e phase) →
      FitsPhase program (machine_at pick stamp b ending e phase) phase → FitsTask program (machine_at pick stamp b ending e phase)
  serving_fits phase h fits = record {
    thread = h.picked.known;
    stamp = rw h.stamp commits_fit;
    time = picked_time program readings words m pick g.sound h.picked;
    position = position_fits program readings words m pick.thread.0 pick.position g h.picked.known h.picked.position;
    phase = fits;
  }

  releasing_fits : (phase : Phase) (i count : ℕ) → Releasing program m pick stamp i count →
      FitsPhase program (machine_at pick stamp b ending e phase) phase → FitsTask program (machine_at pick stamp b ending e phase)
  releasing_fits phase i count h fits = record {
    thread = h.known;
    stamp = let is : stamp + 1 ≡ m.commits = h.commits in let r = few.commits in omega arith;
    time = h.time;
    position = position_fits program readings words m pick.thread.0 pick.position g h.known h.position;
    phase = fits;
  }

  -- the pick's event is one that its thread can serve
  servable : IsPicked program words m pick → IsServable program pick.thread.0 pick.event
  servable p = picked_event program readings words m pick g.sound p (λ q. let r = few.taken q in omega arith)

  own : IsPicked program words m pick → IsOwnTask program pick.thread.0 (task_at program m pick.thread.0)
  own p = own_task program readings m pick.thread.0 g.accepted g.sound p.known

  -- an instruction of the pick's task is executed
  executing : (phase : Phase) (y : Saved) (sends : List Sent) (s o v : ℕ) → IsPicked program words m pick →
      RunningIn (told program m (machine_at pick stamp b ending e phase) y sends s o v) → FitsExecution program e
  executing phase y sends s o v p run = execution_fits program (task_at program m pick.thread.0) e g.accepted (own p).known run.task run.inside run.left

  resuming : (task : TaskId) → IsPicked program words m pick → pick.running ≡ Some task → e ≡ execution_of task → FitsExecution program e
  resuming task p runs is =
      let running : (thread_of m pick.thread.0).running ≡ Some task = sym p.running ∙ runs in
      let known = ((g.sound.threads pick.thread.0 p.known).chain task running).known in
      let right = g.accepted.tasks task.0 known in
      subst (λ z. FitsExecution program z) (sym is) (execution_fits program task.0 (execution_of task) g.accepted known refl right.code right.limit_least)

  chain_began : (p : IsPicked program words m pick) → (thread_of m pick.thread.0).first ≤ pick.time
  chain_began p = let time : pick.time ≡ p.scan.time = p.time in rw time (g.sound.begun p.scan p.scanned pick.thread.0)

  sending : (phase : Phase) (s : Sending) (h : Serving program words m (machine_at pick stamp b ending e phase)) →
      SendingTo (told program m (machine_at pick stamp b ending e phase) h.y h.sends h.s h.o h.v) s → FitsExecution program e × (s.pipe < length program.pipes)
  sending phase s h to = (executing phase h.y h.sends h.s h.o h.v h.picked to.executing.running, to.pipe)

  taken_fits : (q taken : ℕ) → q < length program.pipes → taken ≡ (pipe_of m q).taken → taken < 2 ^ 32
  taken_fits q taken known is = let r = few.taken q in omega arith

  written_fits : (q written : ℕ) → q < length program.pipes → written < (pipe_of m q).taken + (pipe_def program q).places → written < 2 ^ 33
  written_fits q written known room =
      let r = few.taken q in
      let places : (pipe_def program q).places ≤ limits.PIPE_PLACES = (g.accepted.pipes q known).places in
      omega arith

  -- the numbers of each phase
  fits : (phase : Phase) → KnowsAt program words m (machine_at pick stamp b ending e phase) phase → is_over phase ≡ false →
      FitsTask program (machine_at pick stamp b ending e phase)
  fits WriteFirst h more = serving_fits WriteFirst h tt
  fits WriteOrigin h more = serving_fits WriteOrigin h (origin_fits program pick.thread.0 pick.event.origin pick.event.value (servable h.picked))
  fits WriteValue h more = serving_fits WriteValue h tt
  fits WriteTaken h more =
      serving_fits WriteTaken h (pipe_fits program pick.thread.0 pick pick.event.origin pick.event.value g.accepted.counts.pipes h.progress.3 (servable h.picked) (h.picked.loaded h.progress.0.idle))
  fits ReadPeriod h more =
      let known = timer_known program pick.thread.0 pick.event.origin pick.event.value g.accepted.counts.timers h.progress.3 (servable h.picked) in
      let due = due_fits program pick.thread.0 pick pick.event.origin pick.event.value h.progress.3 (servable h.picked) (h.picked.loaded h.progress.0.idle) in
      serving_fits ReadPeriod h (known, due.0, due.1)
  fits (WriteDue w) h more =
      serving_fits (WriteDue w) h (timer_known program pick.thread.0 pick.event.origin pick.event.value g.accepted.counts.timers h.progress.3 (servable h.picked))
  fits Resume h more =
      serving_fits Resume h (
        resuming h.progress.0 h.picked h.progress.1 h.progress.5,
        chain_fits (thread_def program pick.thread.0).expires pick.running pick.first pick.time (thread_of m pick.thread.0).first h.picked.first (chain_began h.picked),
      )
  fits Fetch h more = serving_fits Fetch h (executing Fetch h.y h.sends h.s h.o h.v h.picked h.progress)
  fits (ReadState c n) h more =
      serving_fits (ReadState c n) h (executing (ReadState c n) h.y h.sends h.s h.o h.v h.picked h.progress.0.running, rw (← h.size) h.progress.1)
  fits (WriteState n v) h more =
      serving_fits (WriteState n v) h (executing (WriteState n v) h.y h.sends h.s h.o h.v h.picked h.progress.0.running, rw (← h.size) h.progress.1)
  fits (ReadCount v) h more = serving_fits (ReadCount v) h tt
  fits (StoreLog n v) h more =
      let t : ℕ = pick.thread.0 in
      let log : length (saved program m t).outputs ≤ (thread_def program t).log = (g.sound.threads t h.picked.known).outputs in
      let at : n ≡ length h.y.outputs = h.progress.1 in
      let below : length h.y.outputs < length (saved program m t).outputs + ((thread_def program t).log - length (saved program m t).outputs) = h.progress.2 in
      serving_fits (StoreLog n v) h (omega arith)
  fits (WriteCount k) h more = serving_fits (WriteCount k) h (executing (WriteCount k) h.y h.sends h.s h.o h.v h.picked h.progress.1.running)
  fits (LoadReader s) h more = serving_fits (LoadReader s) h (sending (LoadReader s) s h h.progress)
  fits (LoadTaken s c) h more = serving_fits (LoadTaken s c) h (sending (LoadTaken s c) s h h.progress.0)
  fits (ReadWritten s taken) h more =
      serving_fits (ReadWritten s taken) h (sending (ReadWritten s taken) s h h.progress.0, taken_fits s.pipe taken h.progress.0.pipe h.progress.1)
  fits (StoreItem s written) h more =
      serving_fits (StoreItem s written) h (sending (StoreItem s written) s h h.progress.sending, written_fits s.pipe written h.progress.sending.pipe h.progress.room)
  fits (WriteWritten s written) h more =
      serving_fits (WriteWritten s written) h (sending (WriteWritten s written) s h h.progress.0.sending, written_fits s.pipe written h.progress.0.sending.pipe h.progress.0.room)
  fits (WriteArmed timer delay period) h more =
      serving_fits (WriteArmed timer delay period) h
      (executing (WriteArmed timer delay period) h.y h.sends h.s h.o h.v h.picked h.progress.executing.running, h.progress.known)
  fits (WritePeriod timer period) h more =
      serving_fits (WritePeriod timer period) h (
        executing (WritePeriod timer period) h.progress.before h.sends h.s h.o h.v h.picked h.progress.arming.executing.running,
        h.progress.arming.known,
      )
  fits (WriteStopped timer) h more =
      serving_fits (WriteStopped timer) h (executing (WriteStopped timer) h.y h.sends h.s h.o h.v h.picked h.progress.0.running, h.progress.1)
  fits WriteNext h more = serving_fits WriteNext h tt
  fits WriteFinished h more = serving_fits WriteFinished h tt
  fits ReadTotal h more = serving_fits ReadTotal h tt
  fits (WriteTotal n) h more = serving_fits (WriteTotal n) h tt
  fits WriteStamp h more = serving_fits WriteStamp h tt
  fits StoreCommit h more = serving_fits StoreCommit h tt
  fits (StoreAck source count) h more =
      releasing_fits (StoreAck source count) source.0 count h (source_known program readings words m pick.thread.0 source.0 count g h.known h.finishing)
  fits StoreEmpty h more = releasing_fits StoreEmpty h.0 h.1 h.2 tt
  fits Over h more = absurd (false≢true (sym more))

  -- a period has 32 bits
  period_small : Serving program words m (machine_at pick stamp b ending e ReadPeriod) → working words pick.thread.0 b (27 + 2 * number_of pick.event.origin) < 2 ^ 32
  period_small h =
      let j : ℕ = number_of pick.event.origin in
      let known : j < limits.TIMERS = timer_known program pick.thread.0 pick.event.origin pick.event.value g.accepted.counts.timers h.progress.3 (servable h.picked) in
      let word : working words pick.thread.0 b (header.period j) ≡ (saved program m pick.thread.0).period j =
      h.buffered.words (header.period j) ∙ (words-of_period h.y h.s h.o h.v j known ∙ ap (λ (z : Saved). z.period j) h.progress.0.is)
      in
      rw word (period_fits program readings m pick.thread.0 pick.event.origin pick.event.value g.sound h.progress.3 (servable h.picked))

  -- a total has room for one more
  total_small : Serving program words m (machine_at pick stamp b ending e ReadTotal) → working words pick.thread.0 b (total_word ending) + 1 < 2 ^ 64
  total_small h =
      let t : ℕ = pick.thread.0 in
      let r = few.threads t in
      let served : (saved program m t).served < 2 ^ 32 = let n = r.served in omega arith in
      let trapped : (saved program m t).trapped < 2 ^ 32 = let n = r.trapped in omega arith in
      let expired : (saved program m t).expired < 2 ^ 32 = let n = r.expired in omega arith in
      let total : total_of ending h.y < 2 ^ 32 =
      subst (λ z. total_of ending z < 2 ^ 32) (sym h.progress.0.is)
      (total_fits (saved program m t) (assignment program m pick) pick stamp ending (2 ^ 32) served trapped expired)
      in
      let word : working words t b (total_word ending) ≡ total_of ending h.y = h.buffered.words (total_word ending) ∙ words-of_total ending h.y h.s h.o h.v in
      rw word (omega arith)

  -- no more items wait and were sent than there are places
  written_within : (s : Sending) (taken : ℕ) → Serving program words m (machine_at pick stamp b ending e (ReadWritten s taken)) →
      let word = working words pick.thread.0 b (header.written s.pipe) in (taken ≤ word) × (word ≤ taken + (pipe_def program s.pipe).places)
  written_within s taken h =
      let q : ℕ = s.pipe in
      let to = h.progress.0 in
      let run = to.executing.running in
      let sent = has_sent program m (machine_at pick stamp b ending e (ReadWritten s taken)) h.y h.sends h.s h.o h.v q g.sound.shape run to.pipe to.writer in
      let pipes : length program.pipes ≤ limits.PIPES = g.accepted.counts.pipes in
      let known : q < length program.pipes = to.pipe in
      let word : working words pick.thread.0 b (header.written q) ≡ h.y.written q = h.buffered.words (header.written q) ∙ words-of_written h.y h.s h.o h.v q (omega arith) in
      let written : h.y.written q ≡ (pipe_of m q).taken + length (pipe_of m q).items + sent_to q run.effects.sends = sent.written in
      let room : sent_to q run.effects.sends ≤ get_or (rooms program m) q 0 = run.few q in
      let at : get_or (rooms program m) q 0 ≡ (pipe_def program q).places - length (pipe_of m q).items = room_at program m q known in
      let items : length (pipe_of m q).items ≤ (pipe_def program q).places = (g.sound.pipes q known).room in
      let is : taken ≡ (pipe_of m q).taken = h.progress.1 in
      (rw word (omega arith), rw word (omega arith))

  -- the word that each phase finds
  found_fits : (phase : Phase) → KnowsAt program words m (machine_at pick stamp b ending e phase) phase →
      FitsWord program phase (answer words (want program (machine_at pick stamp b ending e phase)))
  found_fits ReadPeriod h = period_small h
  found_fits (LoadTaken s c) h =
      rw (taken_found program m words s.pipe c g.accepted g.private h.progress.0.pipe h.progress.1) (taken_fits s.pipe (pipe_of m s.pipe).taken h.progress.0.pipe refl)
  found_fits (ReadWritten s taken) h = written_within s taken h
  found_fits ReadTotal h = total_small h
  found_fits _ h = tt

pub every_task_fits : EveryTaskFits
every_task_fits program readings words m r g few knows more = record {
  wants = fits program readings words m r.pick r.stamp r.buffer r.ending r.execution g few r.phase knows more;
  takes = found_fits program readings words m r.pick r.stamp r.buffer r.ending r.execution g few r.phase knows;
}
