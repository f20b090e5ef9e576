-- A service is over by its commit or its release alone: every other access leaves it open.
use Rattle.task_run.proofs.Common.{◌≡◌, ℕ, ◌+◌, ◌/◌, ◌%◌, ◌^◌, false, Option, Some, None, refl, inl, inr, lt-ltb, le-ltb, cases_Bool, cases_lt, TaskId, Origin, Buffer, is_dirty, Act, Sets, Goes, Loads, Saves, Puts, Sends, Arms, Stops, Continues, Ends, Traps, Program, Cpu, advance, advance_with, decoded, thread_def, pipe_def, task_def, Pick, Ending, Execution, Sending, Phase, WriteValue, WriteTaken, WriteDue, Resume, Fetch, ReadState, WriteState, ReadCount, WriteCount, ReadWritten, WriteWritten, WritePeriod, WriteStopped, WriteNext, StoreCommit, StoreEmpty, Over, TaskMachine, Action, Put, Get, Make, action, take, after, after_action, after_act, after_event, after_value, after_written, after_next, end_phase, phase_again, proceed, instr_of, cpu_of, given_by, is_late, is_over}
use Rattle.ink_base.specs.declared.event.Origin.TheVariants as origins
use Rattle.event_pipe.specs.Ring.{has_room}
use Rattle.task_isa.specs.Acts.{act_of}
use Rattle.task_run.specs.declared.ending.Ending.TheVariants as endings
use Rattle.task_run.proofs.Accesses.{machine_at}

-- the commit, the release or nothing comes next
abbrev pub IsLate : Phase → Type 0
IsLate StoreCommit = Unit {0}
IsLate StoreEmpty = Unit {0}
IsLate Over = Unit {0}
IsLate _ = ⊥

-- the service goes on
abbrev pub IsOpen : TaskMachine → Type 0
IsOpen r = is_over r.phase ≡ false

again_open : (running : Option TaskId) → is_over (phase_again running) ≡ false
again_open None = refl
again_open (Some task) = refl

end_open : (o : Origin) → is_over (end_phase o) ≡ false
end_open (origins.Source source count) = refl
end_open (origins.Pipe pipe item) = refl
end_open (origins.Timer timer deadline) = refl

module _ (program : Program) (pick : Pick) (stamp : ℕ) (b : Buffer) (ending : Ending) (e : Execution) where
  abbrev at : Phase → TaskMachine
  at phase = machine_at pick stamp b ending e phase

  proceed_open : (phase : Phase) (cpu : Cpu) → IsOpen (proceed program (at phase) cpu)
  proceed_open phase cpu =
      elim (cases_lt (e.executed + 1) (task_def program e.task.0).limit) [
        | inl more ↦ rw (lt-ltb (e.executed + 1) (task_def program e.task.0).limit more) refl
        | inr none ↦ rw (le-ltb (e.executed + 1) (task_def program e.task.0).limit none) (again_open pick.running)
      ]

  act_open : (phase : Phase) (act : Act) → IsOpen (after_act program (at phase) act)
  act_open phase (Sets a v) = proceed_open phase (advance_with (cpu_of e) a v)
  act_open phase (Goes offset) = proceed_open phase (record (cpu_of e) { at = offset })
  act_open phase (Loads a n) =
      elim (cases_lt n (thread_def program pick.thread.0).state) [
        | inl below ↦ rw (lt-ltb n (thread_def program pick.thread.0).state below) refl
        | inr above ↦ rw (le-ltb n (thread_def program pick.thread.0).state above) (again_open pick.running)
      ]
  act_open phase (Saves n v) =
      elim (cases_lt n (thread_def program pick.thread.0).state) [
        | inl below ↦ rw (lt-ltb n (thread_def program pick.thread.0).state below) refl
        | inr above ↦ rw (le-ltb n (thread_def program pick.thread.0).state above) (again_open pick.running)
      ]
  act_open phase (Traps code) = again_open pick.running
  act_open phase (Puts v) = refl
  act_open phase (Sends pipe a v) = refl
  act_open phase (Arms timer delay period) = refl
  act_open phase (Stops timer) = refl
  act_open phase (Continues task) = refl
  act_open phase Ends = refl

  event_open : (phase : Phase) (how : Ending) → IsOpen (after_event program (at phase) how)
  event_open phase endings.Done = refl
  event_open phase _ = refl

  value_open : (o : Origin) → IsOpen (after_value program (at WriteValue) o)
  value_open (origins.Source source count) = event_open WriteValue ending
  value_open (origins.Pipe pipe item) = refl
  value_open (origins.Timer timer deadline) = refl

  next_open : (how : Ending) → is_over (after_next how pick.event.origin) ≡ false
  next_open (endings.Next task) = refl
  next_open _ = end_open pick.event.origin

  fetch_open : (phase : Phase) (word : ℕ) → IsOpen (after_act program (at phase) (act_of (instr_of (decoded word)) (given_by (at phase)) (cpu_of e)))
  fetch_open phase word = act_open phase (act_of (instr_of (decoded word)) (given_by (at phase)) (cpu_of e))

  resume_open : (word : ℕ) → IsOpen (after program (at Resume) Resume word)
  resume_open word =
      elim (cases_Bool (is_late program (at Resume))) [
        | inl late ↦ rw late (end_open pick.event.origin)
        | inr early ↦ rw early (fetch_open Resume word)
      ]

  count_open : (v word : ℕ) → IsOpen (after program (at (ReadCount v)) (ReadCount v) word)
  count_open v word =
      elim (cases_lt word (thread_def program pick.thread.0).log) [
        | inl room ↦ rw (lt-ltb word (thread_def program pick.thread.0).log room) refl
        | inr full ↦ rw (le-ltb word (thread_def program pick.thread.0).log full) (again_open pick.running)
      ]

  written_open : (s : Sending) (taken word : ℕ) → IsOpen (after_written program (at (ReadWritten s taken)) s taken word)
  written_open s taken word =
      elim (cases_Bool (has_room (pipe_def program s.pipe).places word taken)) [
        | inl room ↦ rw room refl
        | inr full ↦ rw full (proceed_open (ReadWritten s taken) (advance_with (cpu_of e) s.register 0))
      ]

  after_open : (phase : Phase) (word : ℕ) → (IsLate phase → ⊥) → IsOpen (after program (at phase) phase word)
  after_open WriteValue word early = value_open pick.event.origin
  after_open WriteTaken word early = event_open WriteTaken ending
  after_open (WriteDue w) word early = event_open (WriteDue w) ending
  after_open Resume word early = resume_open word
  after_open Fetch word early = fetch_open Fetch word
  after_open (ReadState a n) word early = proceed_open (ReadState a n) (advance_with (cpu_of e) a (word % 2 ^ 32))
  after_open (WriteState n v) word early = proceed_open (WriteState n v) (advance (cpu_of e))
  after_open (ReadCount v) word early = count_open v word
  after_open (WriteCount n) word early = proceed_open (WriteCount n) (advance (cpu_of e))
  after_open (ReadWritten s taken) word early = written_open s taken word
  after_open (WriteWritten s written) word early = proceed_open (WriteWritten s written) (advance_with (cpu_of e) s.register 1)
  after_open (WritePeriod timer period) word early = proceed_open (WritePeriod timer period) (advance (cpu_of e))
  after_open (WriteStopped timer) word early = proceed_open (WriteStopped timer) (advance (cpu_of e))
  after_open WriteNext word early = next_open ending
  after_open StoreCommit word early = absurd (early tt)
  after_open StoreEmpty word early = absurd (early tt)
  after_open Over word early = absurd (early tt)
  after_open _ word early = refl

  action_open : (phase : Phase) (a : Action) (word : ℕ) → is_over phase ≡ false → IsOpen (after program (at phase) phase word) → IsOpen (after_action program (at phase) a word)
  action_open phase (Get w) word more next = next
  action_open phase (Make access) word more next = next
  action_open phase (Put w v) word more next = elim (cases_Bool (is_dirty b (w / 8))) [ inl dirty ↦ rw dirty next | inr clean ↦ rw clean more ]

pub stays_open : (program : Program) (r : TaskMachine) (word : ℕ) → is_over r.phase ≡ false → (IsLate r.phase → ⊥) → IsOpen (take program r word)
stays_open program r word more early =
    action_open program r.pick r.stamp r.buffer r.ending r.execution r.phase (action program r r.phase) word more
    (after_open program r.pick r.stamp r.buffer r.ending r.execution r.phase word early)
