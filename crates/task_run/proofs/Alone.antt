-- The service of a pick that finds words in the ranges of their places stays within its own.
use Rattle.task_run.proofs.Common.{◌≡◌, ℕ, ◌+◌, ◌/◌, ◌%◌, ◌^◌, ◌<◌, ◌≤◌, false, length, Option, Some, None, arith, refl, sym, inl, inr, subst, lt-ltb, le-ltb, false≢true, cases_Bool, cases_lt, TaskId, Origin, FitsOrigin, Buffer, is_dirty, after_copy, no_writes, Act, Sets, Goes, Loads, Saves, Puts, Sends, Arms, Stops, Continues, Ends, Traps, Program, Cpu, number_of, advance, advance_with, decoded, IsAccepted, thread_def, pipe_def, task_def, instr_at, first_task, Pick, Ending, Execution, Sending, Phase, WriteFirst, WriteOrigin, WriteValue, WriteTaken, ReadPeriod, WriteDue, Resume, Fetch, ReadState, WriteState, ReadCount, StoreLog, WriteCount, LoadReader, LoadTaken, ReadWritten, StoreItem, WriteWritten, WriteArmed, WritePeriod, WriteStopped, WriteNext, WriteFinished, ReadTotal, WriteTotal, WriteStamp, StoreCommit, StoreAck, StoreEmpty, Over, TaskMachine, Action, Put, Get, Make, action, want, take, after, after_action, after_act, after_fetch, after_event, after_value, after_written, after_next, after_commit, release_phase, end_phase, phase_again, first_phase, running_task, begin, proceed, stepped, trap, instr_of, cpu_of, given_by, execution_of, is_late, is_over, FitsExecution, FitsChain, FitsPhase, IsOfPipe, IsOfTimer, task_loaded, IsPhaseOf, IsServiceOf}
use Rattle.ink_base.specs.declared.limits.TheConstants as limits
use Rattle.push_core.specs.Table.{greatest_tail}
use Rattle.task_run.specs.Reached.{GoesOn}
use Rattle.ink_base.specs.declared.event.Origin.TheVariants as origins
use Rattle.event_pipe.specs.Ring.{has_room}
use Rattle.never_cut.specs.Ranges.{IsOwnOrigin, IsDuePick, IsPickOf, IsAnswerTo}
use Rattle.task_run.specs.declared.ending.Ending.TheVariants as endings
use Rattle.task_run.proofs.Accesses.{machine_at}
use Rattle.task_run.proofs.Acts.{Lands, task_lands}
use Rattle.task_run.proofs.Limits.{execution_fits}
use Rattle.task_run.proofs.TaskWords.{task_word, any_buffer}

-- the number of an event's pipe or timer
pipe_few : (program : Program) (t : ℕ) (o : Origin) → IsAccepted program → IsOfPipe o → IsOwnOrigin program t o → number_of o < limits.PIPES
pipe_few program t (origins.Source source count) accepted of own = absurd of
pipe_few program t (origins.Pipe pipe item) accepted of own =
    let most : length program.pipes ≤ limits.PIPES = accepted.counts.pipes in
    let known : pipe.0 < length program.pipes = own.0 in omega arith
pipe_few program t (origins.Timer timer deadline) accepted of own = absurd of

timer_few : (program : Program) (t : ℕ) (o : Origin) → IsAccepted program → IsOfTimer o → IsOwnOrigin program t o → number_of o < limits.TIMERS
timer_few program t (origins.Source source count) accepted of own = absurd of
timer_few program t (origins.Pipe pipe item) accepted of own = absurd of
timer_few program t (origins.Timer timer deadline) accepted of own =
    let most : length program.timers ≤ limits.TIMERS = accepted.counts.timers in
    let known : timer.0 < length program.timers = own.0 in omega arith

timer_due : (pick : Pick) (o : Origin) → IsOfTimer o → IsDuePick pick o → (1 ≤ pick.due_word) × (pick.due_word ≤ 2 ^ 48)
timer_due pick (origins.Source source count) of due = absurd of
timer_due pick (origins.Pipe pipe item) of due = absurd of
timer_due pick (origins.Timer timer deadline) of due = due

origin_low : (program : Program) (t : ℕ) (o : Origin) → IsOwnOrigin program t o → FitsOrigin o
origin_low program t (origins.Source source count) own = tt
origin_low program t (origins.Pipe pipe item) own = tt
origin_low program t (origins.Timer timer deadline) own = own.2

chain_before : (expires : Option ℕ) (running : Option TaskId) (first time : ℕ) → first ≤ time → FitsChain expires running first time
chain_before (Some ticks) (Some task) first time before = before
chain_before (Some ticks) None first time before = tt
chain_before None running first time before = tt

module _ (program : Program) (pick : Pick) (stamp : ℕ) (accepted : IsAccepted program) (own : IsPickOf program pick) (low : stamp < 4294967295) where
  abbrev Ready : TaskMachine → Phase → Type 0
  Ready r phase = FitsPhase program r phase × IsPhaseOf program r phase

  -- the pick is served by these registers, which are in their ranges
  abbrev Serves : TaskMachine → Type 0
  Serves r = (r.pick ≡ pick) × (r.stamp ≡ stamp) × (is_over r.phase ≡ false → Ready r r.phase)

  task_begins : (x : ℕ) → x < length program.tasks → FitsExecution program (execution_of (record { 0 = x }))
  task_begins x known =
      let right = accepted.tasks x known in
      execution_fits program x (execution_of (record { 0 = x })) accepted known refl right.code right.limit_least

  trap_by : (b : Buffer) (e : Execution) (running : Option TaskId) → pick.running ≡ running →
      is_over (phase_again running) ≡ false → Ready (machine_at pick stamp b endings.Trapped e (phase_again running)) (phase_again running)
  trap_by b e None is more = (tt, is)
  trap_by b e (Some task) is more = (tt, tt)

  trap_serves : (b : Buffer) (ending : Ending) (e : Execution) (phase : Phase) → Serves (trap (machine_at pick stamp b ending e phase))
  trap_serves b ending e phase = (refl, refl, trap_by (no_writes b.commit) e pick.running refl)

  proceed_serves : (b : Buffer) (ending : Ending) (e : Execution) (phase : Phase) (cpu : Cpu) → FitsExecution program e → cpu.at < length (task_def program e.task.0).code →
      Serves (proceed program (machine_at pick stamp b ending e phase) cpu)
  proceed_serves b ending e phase cpu fits inside =
      elim (cases_lt (e.executed + 1) (task_def program e.task.0).limit) [
        | inl more ↦ rw (lt-ltb (e.executed + 1) (task_def program e.task.0).limit more)
            (refl, refl, λ live. (execution_fits program e.task.0 (stepped e cpu) accepted fits.task refl inside more, tt))
        | inr none ↦ rw (le-ltb (e.executed + 1) (task_def program e.task.0).limit none) (trap_serves b ending e phase)
      ]

  act_serves : (b : Buffer) (ending : Ending) (e : Execution) (phase : Phase) (t : ℕ) (act : Act) → FitsExecution program e →
      Lands program t (length (task_def program e.task.0).code) e.at act → Serves (after_act program (machine_at pick stamp b ending e phase) act)
  act_serves b ending e phase t (Sets a v) fits lands = proceed_serves b ending e phase (advance_with (cpu_of e) a v) fits lands
  act_serves b ending e phase t (Goes offset) fits lands = proceed_serves b ending e phase (record (cpu_of e) { at = offset }) fits lands
  act_serves b ending e phase t (Loads a n) fits lands =
      elim (cases_lt n (thread_def program pick.thread.0).state) [
        | inl below ↦ rw (lt-ltb n (thread_def program pick.thread.0).state below) (refl, refl, λ live. ((fits, below), (fits, lands)))
        | inr above ↦ rw (le-ltb n (thread_def program pick.thread.0).state above) (trap_serves b ending e phase)
      ]
  act_serves b ending e phase t (Saves n v) fits lands =
      elim (cases_lt n (thread_def program pick.thread.0).state) [
        | inl below ↦ rw (lt-ltb n (thread_def program pick.thread.0).state below) (refl, refl, λ live. ((fits, below), (fits, lands)))
        | inr above ↦ rw (le-ltb n (thread_def program pick.thread.0).state above) (trap_serves b ending e phase)
      ]
  act_serves b ending e phase t (Puts v) fits lands = (refl, refl, λ live. (tt, (fits, lands)))
  act_serves b ending e phase t (Sends pipe a v) fits lands = (refl, refl, λ live. ((fits, lands.1), (fits, lands.0)))
  act_serves b ending e phase t (Arms timer delay period) fits lands = (refl, refl, λ live. ((fits, lands.1), (fits, lands.0)))
  act_serves b ending e phase t (Stops timer) fits lands = (refl, refl, λ live. ((fits, lands.1), (fits, lands.0)))
  act_serves b ending e phase t (Continues task) fits lands = (refl, refl, λ live. (tt, tt))
  act_serves b ending e phase t Ends fits lands = (refl, refl, λ live. (tt, tt))
  act_serves b ending e phase t (Traps code) fits lands = trap_serves b ending e phase

  fetch_serves : (b : Buffer) (ending : Ending) (e : Execution) (phase : Phase) (word : ℕ) → FitsExecution program e →
      decoded word ≡ Some (instr_at (task_def program e.task.0) e.at) → Serves (after_fetch program (machine_at pick stamp b ending e phase) (instr_of (decoded word)))
  fetch_serves b ending e phase word fits code =
      rw code (act_serves b ending e phase _ _ fits (task_lands program e.task.0 e.at (given_by (machine_at pick stamp b ending e phase)) (cpu_of e) accepted fits.task refl fits.inside))

  event_serves : (b : Buffer) (ending : Ending) (e : Execution) (phase : Phase) → Serves (after_event program (machine_at pick stamp b ending e phase) ending)
  event_serves b endings.Done e phase = (refl, refl, λ live. (task_begins (first_task program pick.thread.0) (accepted.served pick.thread.0 own.known), tt))
  event_serves b (endings.Next task) e phase = (refl, refl, λ live. (tt, tt))
  event_serves b endings.Trapped e phase = (refl, refl, λ live. (tt, tt))
  event_serves b endings.Expired e phase = (refl, refl, λ live. (tt, tt))

  value_serves : (b : Buffer) (ending : Ending) (e : Execution) (phase : Phase) (o : Origin) → pick.event.origin ≡ o → pick.running ≡ None →
      Serves (after_value program (machine_at pick stamp b ending e phase) o)
  value_serves b ending e phase (origins.Source source count) is idle = event_serves b ending e phase
  value_serves b ending e phase (origins.Pipe pipe item) is idle =
      (refl, refl, λ live. ((pipe_few program pick.thread.0 pick.event.origin accepted (subst IsOfPipe (sym is) tt) own.event.0, own.taken), idle))
  value_serves b ending e phase (origins.Timer timer deadline) is idle =
      let of : IsOfTimer pick.event.origin = subst IsOfTimer (sym is) tt in
      let due = timer_due pick pick.event.origin of (own.due idle) in
      (refl, refl, λ live. ((timer_few program pick.thread.0 pick.event.origin accepted of own.event.0, due.0, due.1), idle))

  end_serves : (b : Buffer) (ending : Ending) (e : Execution) (o : Origin) → Serves (machine_at pick stamp b ending e (end_phase o))
  end_serves b ending e (origins.Source source count) = (refl, refl, λ live. (tt, tt))
  end_serves b ending e (origins.Pipe pipe item) = (refl, refl, λ live. (tt, tt))
  end_serves b ending e (origins.Timer timer deadline) = (refl, refl, λ live. (tt, tt))

  next_serves : (b : Buffer) (ending : Ending) (e : Execution) (o : Origin) → Serves (machine_at pick stamp b ending e (after_next ending o))
  next_serves b (endings.Next task) e o = (refl, refl, λ live. (tt, tt))
  next_serves b endings.Done e o = end_serves b endings.Done e o
  next_serves b endings.Trapped e o = end_serves b endings.Trapped e o
  next_serves b endings.Expired e o = end_serves b endings.Expired e o

  release_serves : (b : Buffer) (ending : Ending) (e : Execution) (o : Origin) → IsOwnOrigin program pick.thread.0 o → Serves (machine_at pick stamp b ending e (release_phase o))
  release_serves b ending e (origins.Source source count) of = (refl, refl, λ live. (of.0, tt))
  release_serves b ending e (origins.Pipe pipe item) of = (refl, refl, λ live. absurd (false≢true (sym live)))
  release_serves b ending e (origins.Timer timer deadline) of = (refl, refl, λ live. absurd (false≢true (sym live)))

  commit_serves : (b : Buffer) (ending : Ending) (e : Execution) → Serves (machine_at pick stamp b ending e (after_commit ending pick.event.origin))
  commit_serves b (endings.Next task) e = (refl, refl, λ live. absurd (false≢true (sym live)))
  commit_serves b endings.Done e = release_serves b endings.Done e pick.event.origin own.event.0
  commit_serves b endings.Trapped e = release_serves b endings.Trapped e pick.event.origin own.event.0
  commit_serves b endings.Expired e = release_serves b endings.Expired e pick.event.origin own.event.0

  written_serves : (b : Buffer) (ending : Ending) (e : Execution) (phase : Phase) (s : Sending) (taken word : ℕ) → GoesOn program e → s.pipe < length program.pipes →
      taken < 2 ^ 32 → word ≤ taken + (pipe_def program s.pipe).places → Serves (after_written program (machine_at pick stamp b ending e phase) s taken word)
  written_serves b ending e phase s taken word goes known small within =
      let places : (pipe_def program s.pipe).places ≤ limits.PIPE_PLACES = (accepted.pipes s.pipe known).places in
      elim (cases_Bool (has_room (pipe_def program s.pipe).places word taken)) [
        | inl room ↦ rw room (refl, refl, λ live. (((goes.0, known), omega arith), goes))
        | inr full ↦ rw full (proceed_serves b ending e phase (advance_with (cpu_of e) s.register 0) goes.0 goes.1)
      ]

  -- the registers after each phase
  after_serves : (b : Buffer) (ending : Ending) (e : Execution) (phase : Phase) (word : ℕ) → Ready (machine_at pick stamp b ending e phase) phase →
      IsAnswerTo program (task_loaded (machine_at pick stamp b ending e phase)) (want program (machine_at pick stamp b ending e phase)) word →
      Serves (after program (machine_at pick stamp b ending e phase) phase word)
  after_serves b ending e WriteFirst word ready h = (refl, refl, λ live. (origin_low program pick.thread.0 pick.event.origin own.event.0, ready.1))
  after_serves b ending e WriteOrigin word ready h = (refl, refl, λ live. (tt, ready.1))
  after_serves b ending e WriteValue word ready h = value_serves b ending e WriteValue pick.event.origin refl ready.1
  after_serves b ending e WriteTaken word ready h = event_serves b ending e WriteTaken
  after_serves b ending e ReadPeriod word ready h = (refl, refl, λ live. (ready.0.0, ready.1))
  after_serves b ending e (WriteDue w) word ready h = event_serves b ending e (WriteDue w)
  after_serves b ending e Resume word ready h =
      elim (cases_Bool (is_late program (machine_at pick stamp b ending e Resume))) [
        | inl late ↦ rw late (end_serves b endings.Expired e pick.event.origin)
        | inr early ↦ rw early (fetch_serves b ending e Resume word ready.0.0 (rw early at h))
      ]
  after_serves b ending e Fetch word ready h = fetch_serves b ending e Fetch word ready.0 h
  after_serves b ending e (ReadState a n) word ready h = proceed_serves b ending e (ReadState a n) (advance_with (cpu_of e) a (word % 2 ^ 32)) ready.1.0 ready.1.1
  after_serves b ending e (WriteState n v) word ready h = proceed_serves b ending e (WriteState n v) (advance (cpu_of e)) ready.1.0 ready.1.1
  after_serves b ending e (ReadCount v) word ready h =
      elim (cases_lt word (thread_def program pick.thread.0).log) [
        | inl room ↦ rw (lt-ltb word (thread_def program pick.thread.0).log room) (refl, refl, λ live. (room, ready.1))
        | inr full ↦ rw (le-ltb word (thread_def program pick.thread.0).log full) (trap_serves b ending e (ReadCount v))
      ]
  after_serves b ending e (StoreLog n v) word ready h = (refl, refl, λ live. (ready.1.0, ready.1))
  after_serves b ending e (WriteCount n) word ready h = proceed_serves b ending e (WriteCount n) (advance (cpu_of e)) ready.1.0 ready.1.1
  after_serves b ending e (LoadReader s) word ready h = (refl, refl, λ live. (ready.0, ready.1))
  after_serves b ending e (LoadTaken s commit) word ready h =
      let small = task_word program pick stamp b ending e (LoadTaken s commit) word accepted ready.0 h in
      (refl, refl, λ live. ((ready.0, small), ready.1))
  after_serves b ending e (ReadWritten s taken) word ready h =
      let within = task_word program pick stamp b ending e (ReadWritten s taken) word accepted ready.0 h in
      written_serves b ending e (ReadWritten s taken) s taken word ready.1 ready.0.0.1 ready.0.1 within.1
  after_serves b ending e (StoreItem s written) word ready h = (refl, refl, λ live. (ready.0, ready.1))
  after_serves b ending e (WriteWritten s written) word ready h = proceed_serves b ending e (WriteWritten s written) (advance_with (cpu_of e) s.register 1) ready.1.0 ready.1.1
  after_serves b ending e (WriteArmed timer delay period) word ready h = (refl, refl, λ live. (ready.0, ready.1))
  after_serves b ending e (WritePeriod timer period) word ready h = proceed_serves b ending e (WritePeriod timer period) (advance (cpu_of e)) ready.1.0 ready.1.1
  after_serves b ending e (WriteStopped timer) word ready h = proceed_serves b ending e (WriteStopped timer) (advance (cpu_of e)) ready.1.0 ready.1.1
  after_serves b ending e WriteNext word ready h = next_serves b ending e pick.event.origin
  after_serves b ending e WriteFinished word ready h = (refl, refl, λ live. (tt, tt))
  after_serves b ending e ReadTotal word ready h = (refl, refl, λ live. (tt, tt))
  after_serves b ending e (WriteTotal n) word ready h = (refl, refl, λ live. (tt, tt))
  after_serves b ending e WriteStamp word ready h = (refl, refl, λ live. (tt, tt))
  after_serves b ending e StoreCommit word ready h = commit_serves b ending e
  after_serves b ending e (StoreAck source count) word ready h = (refl, refl, λ live. (tt, tt))
  after_serves b ending e StoreEmpty word ready h = (refl, refl, λ live. absurd (false≢true (sym live)))
  after_serves b ending e Over word ready h = absurd ready.0

  -- and after each access: a write may copy a word of its page
  action_serves : (b : Buffer) (ending : Ending) (e : Execution) (phase : Phase) (a : Action) (word : ℕ) → Ready (machine_at pick stamp b ending e phase) phase →
      Serves (after program (machine_at pick stamp b ending e phase) phase word) → Serves (after_action program (machine_at pick stamp b ending e phase) a word)
  action_serves b ending e phase (Get w) word ready next = next
  action_serves b ending e phase (Make access) word ready next = next
  action_serves b ending e phase (Put w v) word ready next =
      elim (cases_Bool (is_dirty b (w / 8))) [
        | inl dirty ↦ rw dirty next
        | inr clean ↦ rw clean (refl, refl, λ live. any_buffer program pick stamp b (after_copy b (w / 8) b.copying word) ending e phase ready)
      ]

  -- the ranges of all registers, by those of the phase
  serves_fits : (r : TaskMachine) → Serves r → is_over r.phase ≡ false → IsServiceOf program r
  serves_fits r serves more =
      let ready = serves.2 more in
      let queue : (thread_def program pick.thread.0).queue ≤ limits.QUEUE_PLACES = (accepted.threads pick.thread.0 own.known).queue in
      let here : pick.position ≤ greatest_tail = own.position in
      record {
        pick = subst (IsPickOf program) (sym serves.0) own;
        fits = record {
          thread = subst (λ (p : Pick). p.thread.0 < length program.threads) (sym serves.0) own.known;
          stamp = let is : r.stamp ≡ stamp = serves.1 in omega arith;
          time = subst (λ (p : Pick). p.time < 2 ^ 47) (sym serves.0) own.time;
          position = subst (λ (p : Pick). p.position + (thread_def program p.thread.0).queue < 2 ^ 21) (sym serves.0) (omega arith);
          phase = ready.0;
        };
        phase = ready.1;
      }

  begin_by : (b : Buffer) (running : Option TaskId) → pick.running ≡ running →
      Ready (machine_at pick stamp b endings.Done (execution_of (running_task running)) (first_phase running)) (first_phase running)
  begin_by b None is = (tt, is)
  begin_by b (Some task) is =
      ((task_begins task.0 (own.task task is).0, chain_before (thread_def program pick.thread.0).expires pick.running pick.first pick.time own.first), tt)

-- the first registers of a pick
pub service_begins : (program : Program) (pick : Pick) (stamp : ℕ) → IsAccepted program → IsPickOf program pick → stamp < 4294967295 → IsServiceOf program (begin pick stamp)
service_begins program pick stamp accepted own low =
    serves_fits program pick stamp accepted own low (begin pick stamp)
    (refl, refl, λ live. begin_by program pick stamp accepted own low (no_writes pick.commit_word) pick.running refl) (begins_open pick.running)
  where
    begins_open : (running : Option TaskId) → is_over (first_phase running) ≡ false
    begins_open None = refl
    begins_open (Some task) = refl

-- the registers after a word in its range
pub service_goes : (program : Program) (r next : TaskMachine) (word : ℕ) → IsAccepted program → IsServiceOf program r →
    IsAnswerTo program (task_loaded r) (want program r) word → next ≡ take program r word → is_over next.phase ≡ false → IsServiceOf program next
service_goes program r next word accepted service h is more =
    let low : r.stamp < 4294967295 = (let fits : r.stamp + 1 < 2 ^ 32 = service.fits.stamp in omega arith) in
    let ready : FitsPhase program r r.phase × IsPhaseOf program r r.phase = (service.fits.phase, service.phase) in
    let after = after_serves program r.pick r.stamp accepted service.pick low r.buffer r.ending r.execution r.phase word ready h in
    let serves = action_serves program r.pick r.stamp accepted service.pick low r.buffer r.ending r.execution r.phase (action program r r.phase) word ready after in
    serves_fits program r.pick r.stamp accepted service.pick low next (subst (Serves program r.pick r.stamp accepted service.pick low) (sym is) serves) more
