-- What the machine that serves a pick does in each phase.
use Rattle.std.specs.Prelude.{ℕ, ◌+◌, ◌%◌, Bool, false, if◌then◌else◌, replicate, Option, Some, None}
use Rattle.ink_base.specs.declared.ids.TaskId.{TaskId}
use Rattle.ink_base.specs.declared.output.Output.{Output}
use Rattle.fram_words.specs.Places.{Code, Commit, Log, Ring, Ack, Slot, Clock, Access, Load, Store}
use Rattle.fram_words.specs.Header as header
use Rattle.fram_words.specs.Held.{next_word, origin_word, due_word, output_word}
use Rattle.event_pipe.specs.Ring.{ring_index}
use Rattle.persist_timer.specs.Due.{armed, is_expired}
use Rattle.push_core.specs.Slots.{empty_word}
use Rattle.thread_state.specs.Pages.{place_in, put_access, get_access, commit_access}
use Rattle.task_isa.specs.declared.program.Program.{Program}
use Rattle.task_isa.specs.Acts.{Given, Cpu, number_of}
use Rattle.prog_check.specs.Lookup.{thread_def, pipe_def}
use Rattle.task_run.specs.declared.execution.Execution.{Execution}
use Rattle.task_run.specs.declared.sending.Sending.{Sending}
use Rattle.task_run.specs.declared.phase.Phase.{Phase}
use Rattle.task_run.specs.declared.phase.Phase.TheVariants.{WriteFirst, WriteOrigin, WriteValue, WriteTaken, ReadPeriod, WriteDue, Resume, Fetch, ReadState, WriteState, ReadCount, StoreLog, WriteCount, LoadReader, LoadTaken, ReadWritten, StoreItem, WriteWritten, WriteArmed, WritePeriod, WriteStopped, WriteNext, WriteFinished, ReadTotal, WriteTotal, WriteStamp, StoreCommit, StoreAck, StoreEmpty, Over}
use Rattle.task_run.specs.declared.machine.TaskMachine.{TaskMachine}
use Rattle.task_run.specs.Endings.{next_by, total_word}

-- the start of a task
abbrev pub execution_of : TaskId → Execution
execution_of task = record { task = task; at = 0; registers = replicate 16 0; executed = 0 }

-- the registers of the instruction's own meaning
abbrev pub cpu_of : Execution → Cpu
cpu_of x = record { at = x.at; registers = x.registers }

-- what a task is given: its event, and the time of the scan
abbrev pub given_by : TaskMachine → Given
given_by r = record { event = r.pick.event; time = r.pick.time }

-- what a phase does: a write or a read of the thread's block, or an access of its own
pub data Action : Type 0 where
  Put : (word value : ℕ) → Action
  Get : (word : ℕ) → Action
  Make : (access : Access) → Action

-- the store that empties the slot of the event
abbrev pub emptying : Program → TaskMachine → Access
emptying program r =
    let places = (thread_def program r.pick.thread.0).queue in
    Store (Slot r.pick.thread.0 (r.pick.position % places)) (empty_word (r.pick.position + places))

-- the number of the pipe or timer that the event is of
abbrev pub device : TaskMachine → ℕ
device r = number_of r.pick.event.origin

-- a running chain has run for more ticks than its thread allows
abbrev pub is_overdue : Option ℕ → Option TaskId → (first time : ℕ) → Bool
is_overdue (Some ticks) (Some task) first time = is_expired ticks first time
is_overdue _ _ first time = false

-- the chain that was picked has expired at the time of the scan
abbrev pub is_late : Program → TaskMachine → Bool
is_late program r = is_overdue (thread_def program r.pick.thread.0).expires r.pick.running r.pick.first r.pick.time

-- an output of this value at this commit
abbrev pub output_of : TaskMachine → (value : ℕ) → Output
output_of r value = record { stamp = r.stamp + 1; thread = r.pick.thread; value = value }

-- the load of the next code word
abbrev pub fetch : TaskMachine → Action
fetch r = Make (Load (Code r.execution.task.0 r.execution.at))

-- the store of an item into the ring of its pipe
abbrev pub sending : Program → Sending → (written : ℕ) → Access
sending program s written = Store (Ring s.pipe (ring_index (pipe_def program s.pipe).places written)) s.value

-- what is done next: a word written to the block, a word read from it, or an access that is no matter of the block
abbrev pub action : Program → TaskMachine → Phase → Action
action program r WriteFirst = Put header.first r.pick.time
action program r WriteOrigin = Put header.origin (origin_word r.pick.event.origin)
action program r WriteValue = Put header.value r.pick.event.value
action program r WriteTaken = Put (header.taken (device r)) (r.pick.taken + 1)
action program r ReadPeriod = Get (header.period (device r))
action program r (WriteDue word) = Put (header.due (device r)) word
action program r Resume = if is_late program r then Put header.next (next_word None) else fetch r
action program r Fetch = fetch r
action program r (ReadState a n) = Get (header.state n)
action program r (WriteState n v) = Put (header.state n) v
action program r (ReadCount v) = Get header.outputs
action program r (StoreLog n v) = Make (Store (Log r.pick.thread.0 n) (output_word (output_of r v)))
action program r (WriteCount n) = Put header.outputs n
action program r (LoadReader s) = Make (Load (Commit (pipe_def program s.pipe).reader.0))
action program r (LoadTaken s commit) = Make (Load (place_in (pipe_def program s.pipe).reader.0 commit (header.taken s.pipe)))
action program r (ReadWritten s taken) = Get (header.written s.pipe)
action program r (StoreItem s written) = Make (sending program s written)
action program r (WriteWritten s written) = Put (header.written s.pipe) (written + 1)
action program r (WriteArmed timer delay period) = Put (header.due timer) (armed r.pick.time delay)
action program r (WritePeriod timer period) = Put (header.period timer) period
action program r (WriteStopped timer) = Put (header.due timer) (due_word None)
action program r WriteNext = Put header.next (next_by r.ending)
action program r WriteFinished = Put header.finished (r.pick.position + 1)
action program r ReadTotal = Get (total_word r.ending)
action program r (WriteTotal n) = Put (total_word r.ending) n
action program r WriteStamp = Put header.stamp (r.stamp + 1)
action program r StoreCommit = Make (commit_access r.pick.thread.0 r.buffer)
action program r (StoreAck source count) = Make (Store (Ack source.0) ((count + 1) % 64))
action program r StoreEmpty = Make (emptying program r)
action program r Over = Make (Load Clock)

-- the access that this takes next; a first write to a page copies the page first
abbrev pub access_of : TaskMachine → Action → Access
access_of r (Put word value) = put_access r.pick.thread.0 r.buffer word value
access_of r (Get word) = get_access r.pick.thread.0 r.buffer word
access_of r (Make access) = access
