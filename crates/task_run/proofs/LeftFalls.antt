-- Each access of a service lowers how many are left at most.
use Rattle.task_run.proofs.Common.{◌≡◌, false, ℕ, ◌+◌, ◌/◌, ◌%◌, ◌^◌, ◌<◌, ◌≤◌, length, Option, Some, None, arith, refl, inl, inr, lt-ltb, le-ltb, cases_Bool, cases_lt, TaskId, Origin, Buffer, is_dirty, after_copy, no_writes, Act, Sets, Goes, Loads, Saves, Puts, Sends, Arms, Stops, Continues, Ends, Traps, Program, Cpu, advance, advance_with, decoded, IsAccepted, thread_def, pipe_def, task_def, Pick, Ending, Execution, Sending, Phase, WriteFirst, WriteOrigin, WriteValue, WriteTaken, ReadPeriod, WriteDue, Resume, Fetch, ReadState, WriteState, ReadCount, StoreLog, WriteCount, LoadReader, LoadTaken, ReadWritten, StoreItem, WriteWritten, WriteArmed, WritePeriod, WriteStopped, WriteNext, WriteFinished, ReadTotal, WriteTotal, WriteStamp, StoreCommit, StoreAck, StoreEmpty, Over, TaskMachine, Action, Put, Get, Make, action, take, after, after_action, after_act, after_event, after_value, after_written, after_next, after_commit, release_phase, end_phase, phase_again, proceed, trap, instr_of, cpu_of, given_by, is_late, FitsPhase, FitsTask}
use Rattle.ink_base.specs.declared.event.Origin.TheVariants as origins
use Rattle.ink_base.specs.declared.limits.TheConstants as limits
use Rattle.event_pipe.specs.Ring.{has_room}
use Rattle.std.proofs.lemmas.Bool.{eqb-false}
use Rattle.task_isa.specs.Acts.{act_of}
use Rattle.task_run.specs.declared.ending.Ending.TheVariants as endings
use Rattle.task_run.specs.kept.LeftMost.{IsInPage, clean_pages, block_pages, again_most, running_most, event_left, left_in, left_most}
use Rattle.task_run.proofs.Accesses.{machine_at}
use Rattle.task_run.proofs.Words.{total_high}
use Rattle.task_run.proofs.CleanPages.{clean-none, copy-falls}

-- less is left, and a copying stays at a word of its page
abbrev pub Falls : Program → (r next : TaskMachine) → Type 0
Falls program r next = (left_most program next < left_most program r) × IsInPage next.buffer.copying

-- the same, where a copying was at a word of its page
abbrev pub Lowers : Program → (r next : TaskMachine) → Type 0
Lowers program r next = (left_most program next < left_most program r) × (IsInPage r.buffer.copying → IsInPage next.buffer.copying)

-- a copying that a write goes on with is at a word of its page
abbrev pub CopiesInPage : Buffer → Action → Type 0
CopiesInPage b (Put w v) = is_dirty b (w / 8) ≡ false → IsInPage b.copying
CopiesInPage b (Get w) = Unit {0}
CopiesInPage b (Make access) = Unit {0}

-- a word that is written is one of the block's pages
abbrev pub IsInBlock : Program → (t : ℕ) → Action → Type 0
IsInBlock program t (Put w v) = w / 8 < block_pages program t
IsInBlock program t (Get w) = Unit {0}
IsInBlock program t (Make access) = Unit {0}

module _ (program : Program) (pick : Pick) (stamp : ℕ) where
  -- what is left in a phase is no matter of the copies
  left_in-same : (a b : Buffer) (ending : Ending) (e : Execution) (phase : Phase) →
      left_in program (machine_at pick stamp a ending e phase) phase ≡ left_in program (machine_at pick stamp b ending e phase) phase
  left_in-same a b ending e WriteFirst = refl
  left_in-same a b ending e _ = refl

  trap_most : (c : ℕ) (e : Execution) (running : Option TaskId) →
      left_most program (machine_at pick stamp (no_writes c) endings.Trapped e (phase_again running)) ≤ again_most program pick.thread.0
  trap_most c e None = let none : clean_pages 0 (block_pages program pick.thread.0) ≡ block_pages program pick.thread.0 = clean-none _ in omega arith
  trap_most c e (Some task) = let none : clean_pages 0 (block_pages program pick.thread.0) ≡ block_pages program pick.thread.0 = clean-none _ in omega arith

  trap_falls : (b : Buffer) (ending : Ending) (e : Execution) (phase : Phase) →
      again_most program pick.thread.0 < left_in program (machine_at pick stamp b ending e phase) phase →
      Lowers program (machine_at pick stamp b ending e phase) (trap (machine_at pick stamp b ending e phase))
  trap_falls b ending e phase more =
      let most : left_most program (trap (machine_at pick stamp b ending e phase)) ≤ again_most program pick.thread.0 = trap_most b.commit e pick.running in
      (omega arith, λ inside. omega arith)

  proceed_falls : (b : Buffer) (ending : Ending) (e : Execution) (phase : Phase) (cpu : Cpu) (n : ℕ) → 1 ≤ n →
      left_in program (machine_at pick stamp b ending e phase) phase ≡ running_most program (machine_at pick stamp b ending e phase) n →
      Lowers program (machine_at pick stamp b ending e phase) (proceed program (machine_at pick stamp b ending e phase) cpu)
  proceed_falls b ending e phase cpu n some is =
      elim (cases_lt (e.executed + 1) (task_def program e.task.0).limit) [
        | inl more ↦ rw (lt-ltb (e.executed + 1) (task_def program e.task.0).limit more) (omega arith, λ inside. inside)
        | inr none ↦ rw (le-ltb (e.executed + 1) (task_def program e.task.0).limit none) (trap_falls b ending e phase (omega arith))
      ]

  act_falls : (b : Buffer) (ending : Ending) (e : Execution) (phase : Phase) (act : Act) →
      left_in program (machine_at pick stamp b ending e phase) phase ≡ running_most program (machine_at pick stamp b ending e phase) 6 →
      Lowers program (machine_at pick stamp b ending e phase) (after_act program (machine_at pick stamp b ending e phase) act)
  act_falls b ending e phase (Sets a v) is = proceed_falls b ending e phase (advance_with (cpu_of e) a v) 6 (omega arith) is
  act_falls b ending e phase (Goes offset) is = proceed_falls b ending e phase (record (cpu_of e) { at = offset }) 6 (omega arith) is
  act_falls b ending e phase (Loads a n) is =
      elim (cases_lt n (thread_def program pick.thread.0).state) [
        | inl below ↦ rw (lt-ltb n (thread_def program pick.thread.0).state below) (omega arith, λ inside. inside)
        | inr above ↦ rw (le-ltb n (thread_def program pick.thread.0).state above) (trap_falls b ending e phase (omega arith))
      ]
  act_falls b ending e phase (Saves n v) is =
      elim (cases_lt n (thread_def program pick.thread.0).state) [
        | inl below ↦ rw (lt-ltb n (thread_def program pick.thread.0).state below) (omega arith, λ inside. inside)
        | inr above ↦ rw (le-ltb n (thread_def program pick.thread.0).state above) (trap_falls b ending e phase (omega arith))
      ]
  act_falls b ending e phase (Puts v) is = (omega arith, λ inside. inside)
  act_falls b ending e phase (Sends pipe a v) is = (omega arith, λ inside. inside)
  act_falls b ending e phase (Arms timer delay period) is = (omega arith, λ inside. inside)
  act_falls b ending e phase (Stops timer) is = (omega arith, λ inside. inside)
  act_falls b ending e phase (Continues task) is = (omega arith, λ inside. inside)
  act_falls b ending e phase Ends is = (omega arith, λ inside. inside)
  act_falls b ending e phase (Traps code) is = trap_falls b ending e phase (omega arith)

  event_falls : (b : Buffer) (ending : Ending) (e : Execution) (phase : Phase) (n : ℕ) → 1 ≤ n →
      left_in program (machine_at pick stamp b ending e phase) phase ≡ event_left program (machine_at pick stamp b ending e phase) n →
      Lowers program (machine_at pick stamp b ending e phase) (after_event program (machine_at pick stamp b ending e phase) ending)
  event_falls b endings.Done e phase n some is = (omega arith, λ inside. inside)
  event_falls b (endings.Next task) e phase n some is = (omega arith, λ inside. inside)
  event_falls b endings.Trapped e phase n some is = (omega arith, λ inside. inside)
  event_falls b endings.Expired e phase n some is = (omega arith, λ inside. inside)

  value_falls : (b : Buffer) (ending : Ending) (e : Execution) (o : Origin) →
      Lowers program (machine_at pick stamp b ending e WriteValue) (after_value program (machine_at pick stamp b ending e WriteValue) o)
  value_falls b ending e (origins.Source source count) = event_falls b ending e WriteValue 3 (omega arith) refl
  value_falls b ending e (origins.Pipe pipe item) = (omega arith, λ inside. inside)
  value_falls b ending e (origins.Timer timer deadline) = (omega arith, λ inside. inside)

  -- an end that has its counts left to write
  end_most : (b : Buffer) (ending : Ending) (e : Execution) (o : Origin) → left_in program (machine_at pick stamp b ending e (end_phase o)) (end_phase o) ≤ 7
  end_most b ending e (origins.Source source count) = omega arith
  end_most b ending e (origins.Pipe pipe item) = omega arith
  end_most b ending e (origins.Timer timer deadline) = omega arith

  late_falls : (b : Buffer) (ending : Ending) (e : Execution) →
      Lowers program (machine_at pick stamp b ending e Resume) (machine_at pick stamp b endings.Expired e (end_phase pick.event.origin))
  late_falls b ending e = let most = end_most b endings.Expired e pick.event.origin in (omega arith, λ inside. inside)

  next_falls : (b : Buffer) (ending : Ending) (e : Execution) →
      Lowers program (machine_at pick stamp b ending e WriteNext) (machine_at pick stamp b ending e (after_next ending pick.event.origin))
  next_falls b (endings.Next task) e = (omega arith, λ inside. inside)
  next_falls b endings.Done e = let most = end_most b endings.Done e pick.event.origin in (omega arith, λ inside. inside)
  next_falls b endings.Trapped e = let most = end_most b endings.Trapped e pick.event.origin in (omega arith, λ inside. inside)
  next_falls b endings.Expired e = let most = end_most b endings.Expired e pick.event.origin in (omega arith, λ inside. inside)

  release_most : (b : Buffer) (ending : Ending) (e : Execution) (o : Origin) → left_in program (machine_at pick stamp b ending e (release_phase o)) (release_phase o) ≤ 2
  release_most b ending e (origins.Source source count) = omega arith
  release_most b ending e (origins.Pipe pipe item) = omega arith
  release_most b ending e (origins.Timer timer deadline) = omega arith

  commit_falls : (b : Buffer) (ending : Ending) (e : Execution) →
      Lowers program (machine_at pick stamp b ending e StoreCommit) (machine_at pick stamp b ending e (after_commit ending pick.event.origin))
  commit_falls b (endings.Next task) e = (omega arith, λ inside. inside)
  commit_falls b endings.Done e = let most = release_most b endings.Done e pick.event.origin in (omega arith, λ inside. inside)
  commit_falls b endings.Trapped e = let most = release_most b endings.Trapped e pick.event.origin in (omega arith, λ inside. inside)
  commit_falls b endings.Expired e = let most = release_most b endings.Expired e pick.event.origin in (omega arith, λ inside. inside)

  written_falls : (b : Buffer) (ending : Ending) (e : Execution) (s : Sending) (taken word : ℕ) →
      let r = machine_at pick stamp b ending e (ReadWritten s taken) in Lowers program r (after_written program r s taken word)
  written_falls b ending e s taken word =
      elim (cases_Bool (has_room (pipe_def program s.pipe).places word taken)) [
        | inl room ↦ rw room (omega arith, λ inside. inside)
        | inr full ↦ rw full (proceed_falls b ending e (ReadWritten s taken) (advance_with (cpu_of e) s.register 0) 3 (omega arith) refl)
      ]

  -- the access of each phase
  after_falls : (b : Buffer) (ending : Ending) (e : Execution) (phase : Phase) (word : ℕ) → FitsPhase program (machine_at pick stamp b ending e phase) phase →
      Lowers program (machine_at pick stamp b ending e phase) (after program (machine_at pick stamp b ending e phase) phase word)
  after_falls b ending e WriteFirst word fits = (omega arith, λ inside. inside)
  after_falls b ending e WriteOrigin word fits = (omega arith, λ inside. inside)
  after_falls b ending e WriteValue word fits = value_falls b ending e pick.event.origin
  after_falls b ending e WriteTaken word fits = event_falls b ending e WriteTaken 1 (omega arith) refl
  after_falls b ending e ReadPeriod word fits = (omega arith, λ inside. inside)
  after_falls b ending e (WriteDue w) word fits = event_falls b ending e (WriteDue w) 1 (omega arith) refl
  after_falls b ending e Resume word fits =
      elim (cases_Bool (is_late program (machine_at pick stamp b ending e Resume))) [
        | inl late ↦ rw late (late_falls b ending e)
        | inr early ↦ rw early (act_falls b ending e Resume (act_of (instr_of (decoded word)) (given_by (machine_at pick stamp b ending e Resume)) (cpu_of e)) refl)
      ]
  after_falls b ending e Fetch word fits =
      act_falls b ending e Fetch (act_of (instr_of (decoded word)) (given_by (machine_at pick stamp b ending e Fetch)) (cpu_of e)) refl
  after_falls b ending e (ReadState a n) word fits = proceed_falls b ending e (ReadState a n) (advance_with (cpu_of e) a (word % 2 ^ 32)) 1 (omega arith) refl
  after_falls b ending e (WriteState n v) word fits = proceed_falls b ending e (WriteState n v) (advance (cpu_of e)) 1 (omega arith) refl
  after_falls b ending e (ReadCount v) word fits =
      elim (cases_lt word (thread_def program pick.thread.0).log) [
        | inl room ↦ rw (lt-ltb word (thread_def program pick.thread.0).log room) (omega arith, λ inside. inside)
        | inr full ↦ rw (le-ltb word (thread_def program pick.thread.0).log full) (trap_falls b ending e (ReadCount v) (omega arith))
      ]
  after_falls b ending e (StoreLog n v) word fits = (omega arith, λ inside. inside)
  after_falls b ending e (WriteCount n) word fits = proceed_falls b ending e (WriteCount n) (advance (cpu_of e)) 1 (omega arith) refl
  after_falls b ending e (LoadReader s) word fits = (omega arith, λ inside. inside)
  after_falls b ending e (LoadTaken s commit) word fits = (omega arith, λ inside. inside)
  after_falls b ending e (ReadWritten s taken) word fits = written_falls b ending e s taken word
  after_falls b ending e (StoreItem s written) word fits = (omega arith, λ inside. inside)
  after_falls b ending e (WriteWritten s written) word fits =
      proceed_falls b ending e (WriteWritten s written) (advance_with (cpu_of e) s.register 1) 1 (omega arith) refl
  after_falls b ending e (WriteArmed timer delay period) word fits = (omega arith, λ inside. inside)
  after_falls b ending e (WritePeriod timer period) word fits = proceed_falls b ending e (WritePeriod timer period) (advance (cpu_of e)) 1 (omega arith) refl
  after_falls b ending e (WriteStopped timer) word fits = proceed_falls b ending e (WriteStopped timer) (advance (cpu_of e)) 1 (omega arith) refl
  after_falls b ending e WriteNext word fits = next_falls b ending e
  after_falls b ending e WriteFinished word fits = (omega arith, λ inside. inside)
  after_falls b ending e ReadTotal word fits = (omega arith, λ inside. inside)
  after_falls b ending e (WriteTotal n) word fits = (omega arith, λ inside. inside)
  after_falls b ending e WriteStamp word fits = (omega arith, λ inside. inside)
  after_falls b ending e StoreCommit word fits = commit_falls b ending e
  after_falls b ending e (StoreAck source count) word fits = (omega arith, λ inside. inside)
  after_falls b ending e StoreEmpty word fits = (omega arith, λ inside. inside)
  after_falls b ending e Over word fits = absurd fits

  -- and of each action: a write to a clean page copies a word of it
  action_falls : (b : Buffer) (ending : Ending) (e : Execution) (phase : Phase) (a : Action) (word : ℕ) → CopiesInPage b a → IsInBlock program pick.thread.0 a →
      Lowers program (machine_at pick stamp b ending e phase) (after program (machine_at pick stamp b ending e phase) phase word) →
      Lowers program (machine_at pick stamp b ending e phase) (after_action program (machine_at pick stamp b ending e phase) a word)
  action_falls b ending e phase (Get w) word copies known next = next
  action_falls b ending e phase (Make access) word copies known next = next
  action_falls b ending e phase (Put w v) word copies known next =
      elim (cases_Bool (is_dirty b (w / 8))) [
        | inl dirty ↦ rw dirty next
        | inr clean ↦
            let copied = copy-falls b.commit b.dirty (w / 8) (block_pages program pick.thread.0) word b.copying (eqb-false _ 1 clean) known (copies clean) in
            let same = left_in-same (after_copy b (w / 8) b.copying word) b ending e phase in
            rw clean (omega arith, λ inside. copied.1)
      ]

  -- the words that the phases write are on the block's pages
  in_block : (b : Buffer) (ending : Ending) (e : Execution) (phase : Phase) → IsAccepted program → FitsPhase program (machine_at pick stamp b ending e phase) phase →
      IsInBlock program pick.thread.0 (action program (machine_at pick stamp b ending e phase) phase)
  in_block b ending e WriteFirst accepted fits = omega arith
  in_block b ending e WriteOrigin accepted fits = omega arith
  in_block b ending e WriteValue accepted fits = omega arith
  in_block b ending e WriteTaken accepted fits = omega arith
  in_block b ending e (WriteDue w) accepted fits = omega arith
  in_block b ending e Resume accepted fits =
      elim (cases_Bool (is_late program (machine_at pick stamp b ending e Resume))) [ inl late ↦ rw late (omega arith) | inr early ↦ rw early tt ]
  in_block b ending e (WriteState n v) accepted fits = let below : n < (thread_def program pick.thread.0).state = fits.1 in omega arith
  in_block b ending e (WriteCount n) accepted fits = omega arith
  in_block b ending e (WriteWritten s written) accepted fits =
      let most : length program.pipes ≤ limits.PIPES = accepted.counts.pipes in let known : s.pipe < length program.pipes = fits.0.1 in omega arith
  in_block b ending e (WriteArmed timer delay period) accepted fits =
      let most : length program.timers ≤ limits.TIMERS = accepted.counts.timers in let known : timer < length program.timers = fits.1 in omega arith
  in_block b ending e (WritePeriod timer period) accepted fits =
      let most : length program.timers ≤ limits.TIMERS = accepted.counts.timers in let known : timer < length program.timers = fits.1 in omega arith
  in_block b ending e (WriteStopped timer) accepted fits =
      let most : length program.timers ≤ limits.TIMERS = accepted.counts.timers in let known : timer < length program.timers = fits.1 in omega arith
  in_block b ending e WriteNext accepted fits = omega arith
  in_block b ending e WriteFinished accepted fits = omega arith
  in_block b ending e (WriteTotal n) accepted fits = let high = total_high ending in omega arith
  in_block b ending e WriteStamp accepted fits = omega arith
  in_block b ending e _ accepted fits = tt

-- Each access that the registers can make lowers what is left at most.
pub task_lowers : (program : Program) (r : TaskMachine) (word : ℕ) → IsAccepted program → FitsTask program r → CopiesInPage r.buffer (action program r r.phase) →
    Lowers program r (take program r word)
task_lowers program r word accepted fits copies =
    action_falls program r.pick r.stamp r.buffer r.ending r.execution r.phase (action program r r.phase) word copies
    (in_block program r.pick r.stamp r.buffer r.ending r.execution r.phase accepted fits.phase)
    (after_falls program r.pick r.stamp r.buffer r.ending r.execution r.phase word fits.phase)

copies_by : (b : Buffer) (a : Action) → IsInPage b.copying → CopiesInPage b a
copies_by b (Put w v) inside = λ clean. inside
copies_by b (Get w) inside = tt
copies_by b (Make access) inside = tt

pub left_falls : (program : Program) (r : TaskMachine) (word : ℕ) → IsAccepted program → FitsTask program r → IsInPage r.buffer.copying → Falls program r (take program r word)
left_falls program r word accepted fits inside =
    let lowers = task_lowers program r word accepted fits (copies_by r.buffer (action program r r.phase) inside) in
    (lowers.0, lowers.1 inside)
