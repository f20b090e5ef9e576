-- A service keeps its stamp.
use Rattle.kernel_core.proofs.Common.{◌≡◌, ℕ, ◌+◌, ◌/◌, ◌%◌, ◌^◌, Bool, true, false, cond, refl, nat_lt, Program, thread_def, pipe_def, task_def, is_dirty, after_copy, Phase, TaskMachine, Action, Put, Get, Make, action, after_action, after_act, after_event, after_fetch, after_resume, after_value, after_written, at_phase, is_late, cpu_of, given_by, instr_of, proceed, stepped, trap}
use Rattle.task_run.specs.Machine.{after, take}
use Rattle.task_isa.specs.declared.act.Act.{Act}
use Rattle.task_isa.specs.declared.act.Act.TheVariants.{Sets, Goes, Loads, Saves, Puts, Sends, Arms, Stops, Continues, Ends, Traps}
use Rattle.task_isa.specs.Acts.{Cpu, act_of}
use Rattle.task_isa.specs.Meaning.{advance, advance_with}
use Rattle.task_isa.specs.Code.{decoded}
use Rattle.ink_base.specs.declared.event.Origin.{Origin}
use Rattle.ink_base.specs.declared.event.Origin.TheVariants as origins
use Rattle.event_pipe.specs.Ring.{has_room}
use Rattle.task_run.specs.declared.sending.Sending.{Sending}
use Rattle.task_run.specs.declared.ending.Ending.{Ending}
use Rattle.task_run.specs.declared.ending.Ending.TheVariants as endings
use Rattle.task_run.specs.declared.phase.Phase.TheVariants.{WriteValue, WriteTaken, WriteDue, Resume, Fetch, ReadState, WriteState, ReadCount, StoreLog, WriteCount, ReadWritten, StoreItem, WriteWritten, WritePeriod, WriteStopped}

either_stamp : (b : Bool) (r x y : TaskMachine) → x.stamp ≡ r.stamp → y.stamp ≡ r.stamp → (cond b x y).stamp ≡ r.stamp
either_stamp true r x y first second = first
either_stamp false r x y first second = second

proceed_stamp : (program : Program) (r : TaskMachine) (cpu : Cpu) → (proceed program r cpu).stamp ≡ r.stamp
proceed_stamp program r cpu =
    either_stamp (nat_lt (r.execution.executed + 1) (task_def program r.execution.task.0).limit) r (record r { execution = stepped r.execution cpu; phase = Fetch }) (trap r) refl refl

act_stamp : (program : Program) (r : TaskMachine) (act : Act) → (after_act program r act).stamp ≡ r.stamp
act_stamp program r (Sets a v) = proceed_stamp program r (advance_with (cpu_of r.execution) a v)
act_stamp program r (Goes offset) = proceed_stamp program r (record (cpu_of r.execution) { at = offset })
act_stamp program r (Loads a n) = either_stamp (nat_lt n (thread_def program r.pick.thread.0).state) r (at_phase r (ReadState a n)) (trap r) refl refl
act_stamp program r (Saves n v) = either_stamp (nat_lt n (thread_def program r.pick.thread.0).state) r (at_phase r (WriteState n v)) (trap r) refl refl
act_stamp program r (Puts v) = refl
act_stamp program r (Sends pipe a v) = refl
act_stamp program r (Arms timer delay period) = refl
act_stamp program r (Stops timer) = refl
act_stamp program r (Continues task) = refl
act_stamp program r Ends = refl
act_stamp program r (Traps code) = refl

event_stamp : (program : Program) (r : TaskMachine) (ending : Ending) → (after_event program r ending).stamp ≡ r.stamp
event_stamp program r endings.Done = refl
event_stamp program r _ = refl

value_stamp : (program : Program) (r : TaskMachine) (origin : Origin) → (after_value program r origin).stamp ≡ r.stamp
value_stamp program r (origins.Source source count) = event_stamp program r r.ending
value_stamp program r (origins.Pipe pipe item) = refl
value_stamp program r (origins.Timer timer deadline) = refl

fetch_stamp : (program : Program) (r : TaskMachine) (word : ℕ) → (after_fetch program r (instr_of (decoded word))).stamp ≡ r.stamp
fetch_stamp program r word = act_stamp program r (act_of (instr_of (decoded word)) (given_by r) (cpu_of r.execution))

resume_stamp : (program : Program) (r : TaskMachine) (late : Bool) (word : ℕ) → (after_resume program r late word).stamp ≡ r.stamp
resume_stamp program r true word = refl
resume_stamp program r false word = fetch_stamp program r word

written_stamp : (program : Program) (r : TaskMachine) (s : Sending) (taken written : ℕ) → (after_written program r s taken written).stamp ≡ r.stamp
written_stamp program r s taken written =
    either_stamp (has_room (pipe_def program s.pipe).places written taken) r (at_phase r (StoreItem s written))
    (proceed program r (advance_with (cpu_of r.execution) s.register 0)) refl (proceed_stamp program r (advance_with (cpu_of r.execution) s.register 0))

after_stamp : (program : Program) (r : TaskMachine) (phase : Phase) (word : ℕ) → (after program r phase word).stamp ≡ r.stamp
after_stamp program r WriteValue word = value_stamp program r r.pick.event.origin
after_stamp program r WriteTaken word = event_stamp program r r.ending
after_stamp program r (WriteDue w) word = event_stamp program r r.ending
after_stamp program r Resume word = resume_stamp program r (is_late program r) word
after_stamp program r Fetch word = fetch_stamp program r word
after_stamp program r (ReadState a n) word = proceed_stamp program r (advance_with (cpu_of r.execution) a (word % 2 ^ 32))
after_stamp program r (WriteState n v) word = proceed_stamp program r (advance (cpu_of r.execution))
after_stamp program r (ReadCount v) word = either_stamp (nat_lt word (thread_def program r.pick.thread.0).log) r (at_phase r (StoreLog word v)) (trap r) refl refl
after_stamp program r (WriteCount n) word = proceed_stamp program r (advance (cpu_of r.execution))
after_stamp program r (ReadWritten s taken) word = written_stamp program r s taken word
after_stamp program r (WriteWritten s written) word = proceed_stamp program r (advance_with (cpu_of r.execution) s.register 1)
after_stamp program r (WritePeriod timer period) word = proceed_stamp program r (advance (cpu_of r.execution))
after_stamp program r (WriteStopped timer) word = proceed_stamp program r (advance (cpu_of r.execution))
after_stamp program r _ word = refl

action_stamp : (program : Program) (r : TaskMachine) (a : Action) (word : ℕ) → (after_action program r a word).stamp ≡ r.stamp
action_stamp program r (Put w v) word =
    either_stamp (is_dirty r.buffer (w / 8)) r (after program r r.phase word) (record r { buffer = after_copy r.buffer (w / 8) r.buffer.copying word }) (after_stamp program r r.phase word) refl
action_stamp program r (Get w) word = after_stamp program r r.phase word
action_stamp program r (Make access) word = after_stamp program r r.phase word

pub take_stamp : (program : Program) (r : TaskMachine) (word : ℕ) → (take program r word).stamp ≡ r.stamp
take_stamp program r word = action_stamp program r (action program r r.phase) word
