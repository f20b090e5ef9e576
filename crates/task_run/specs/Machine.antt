-- The machine that serves one pick: in each phase one access, and the registers after it.
use Rattle.std.specs.Prelude.{ℕ, ◌+◌, ◌/◌, ◌%◌, ◌^◌, nat_lt, Bool, true, false, if◌then◌else◌, Option, Some, None}
use Rattle.ink_base.specs.declared.ids.TaskId.{TaskId}
use Rattle.ink_base.specs.declared.event.Origin.{Origin}
use Rattle.ink_base.specs.declared.event.Origin.TheVariants as origins
use Rattle.fram_words.specs.Places.{Access}
use Rattle.event_pipe.specs.Ring.{has_room}
use Rattle.persist_timer.specs.Due.{after_service}
use Rattle.thread_state.specs.Pages.{no_writes, is_dirty, after_copy}
use Rattle.task_isa.specs.declared.instr.Instr.{Instr}
use Rattle.task_isa.specs.declared.instr.Instr.TheVariants as instrs
use Rattle.task_isa.specs.declared.act.Act.{Act}
use Rattle.task_isa.specs.declared.act.Act.TheVariants.{Sets, Goes, Loads, Saves, Puts, Sends, Arms, Stops, Continues, Ends, Traps}
use Rattle.task_isa.specs.declared.program.Program.{Program}
use Rattle.task_isa.specs.Acts.{Cpu, act_of}
use Rattle.task_isa.specs.Meaning.{advance, advance_with}
use Rattle.task_isa.specs.Code.{decoded}
use Rattle.prog_check.specs.Lookup.{thread_def, pipe_def, task_def, first_task}
use Rattle.ink_layout.specs.declared.pick.Pick.{Pick}
use Rattle.ink_layout.specs.declared.slot_at.SlotAt.{SlotAt}
use Rattle.ink_layout.specs.declared.kernel_point.KernelPoint.{KernelPoint}
use Rattle.ink_layout.specs.declared.kernel_point.KernelPoint.TheVariants as points
use Rattle.task_run.specs.declared.ending.Ending.{Ending}
use Rattle.task_run.specs.declared.ending.Ending.TheVariants as endings
use Rattle.task_run.specs.declared.execution.Execution.{Execution}
use Rattle.task_run.specs.declared.sending.Sending.{Sending}
use Rattle.task_run.specs.declared.phase.Phase.{Phase}
use Rattle.task_run.specs.declared.phase.Phase.TheVariants.{WriteFirst, WriteOrigin, WriteValue, WriteTaken, ReadPeriod, WriteDue, Resume, Fetch, ReadState, WriteState, ReadCount, StoreLog, WriteCount, LoadReader, LoadTaken, ReadWritten, StoreItem, WriteWritten, WriteArmed, WritePeriod, WriteStopped, WriteNext, WriteFinished, ReadTotal, WriteTotal, WriteStamp, StoreCommit, StoreAck, StoreEmpty, Over}
use Rattle.task_run.specs.declared.machine.TaskMachine.{TaskMachine}
use Rattle.task_run.specs.Actions.{execution_of, cpu_of, given_by, Action, Put, Get, Make, is_late, action, access_of}

-- the next access
abbrev pub want : Program → TaskMachine → Access
want program r = access_of r (action program r r.phase)

-- the same registers in another phase
abbrev pub at_phase : TaskMachine → Phase → TaskMachine
at_phase r phase = record r { phase = phase }

-- where a pick begins: the words of the event, or at once the running chain's next task
abbrev pub first_phase : Option TaskId → Phase
first_phase None = WriteFirst
first_phase (Some task) = Resume

-- and where it begins again after a trap
abbrev pub phase_again : Option TaskId → Phase
phase_again None = WriteFirst
phase_again (Some task) = WriteNext

-- all writes are given up, and the event's are made again
abbrev pub trap : TaskMachine → TaskMachine
trap r = record r { buffer = no_writes r.buffer.commit; ending = endings.Trapped; phase = phase_again r.pick.running }

-- one more instruction was executed
abbrev pub stepped : Execution → Cpu → Execution
stepped x cpu = record { task = x.task; at = cpu.at; registers = cpu.registers; executed = x.executed + 1 }

-- the next instruction, if one more may be executed
abbrev pub proceed : Program → TaskMachine → Cpu → TaskMachine
proceed program r cpu =
    if nat_lt (r.execution.executed + 1) (task_def program r.execution.task.0).limit
    then record r { execution = stepped r.execution cpu; phase = Fetch }
    else trap r

-- an instruction was fetched
abbrev pub after_act : Program → TaskMachine → Act → TaskMachine
after_act program r (Sets a v) = proceed program r (advance_with (cpu_of r.execution) a v)
after_act program r (Goes offset) = proceed program r (record (cpu_of r.execution) { at = offset })
after_act program r (Loads a n) = if nat_lt n (thread_def program r.pick.thread.0).state then at_phase r (ReadState a n) else trap r
after_act program r (Saves n v) = if nat_lt n (thread_def program r.pick.thread.0).state then at_phase r (WriteState n v) else trap r
after_act program r (Puts v) = at_phase r (ReadCount v)
after_act program r (Sends pipe a v) = at_phase r (LoadReader (record { pipe = pipe; register = a; value = v }))
after_act program r (Arms timer delay period) = at_phase r (WriteArmed timer delay period)
after_act program r (Stops timer) = at_phase r (WriteStopped timer)
after_act program r (Continues task) = record r { ending = endings.Next task; phase = WriteNext }
after_act program r Ends = at_phase r WriteNext
after_act program r (Traps code) = trap r

-- the instruction of a code word; a word of no instruction stands for `done`
abbrev pub instr_of : Option Instr → Instr
instr_of None = instrs.Done
instr_of (Some instr) = instr

-- the registers behind an instruction
abbrev pub after_fetch : Program → TaskMachine → Instr → TaskMachine
after_fetch program r instr = after_act program r (act_of instr (given_by r) (cpu_of r.execution))

-- the thread's first task begins, unless it has trapped
abbrev pub after_event : Program → TaskMachine → Ending → TaskMachine
after_event program r endings.Done = record r { execution = execution_of (record { 0 = first_task program r.pick.thread.0 }); phase = Fetch }
after_event program r _ = at_phase r WriteNext

-- after origin and value: an item is taken from its pipe, and a timer goes on
abbrev pub after_value : Program → TaskMachine → Origin → TaskMachine
after_value program r (origins.Source source count) = after_event program r r.ending
after_value program r (origins.Pipe pipe item) = at_phase r WriteTaken
after_value program r (origins.Timer timer deadline) = at_phase r ReadPeriod

-- the end of a queue's event is written in one word more
abbrev pub end_phase : Origin → Phase
end_phase (origins.Source source count) = WriteFinished
end_phase (origins.Pipe pipe item) = ReadTotal
end_phase (origins.Timer timer deadline) = ReadTotal

-- behind the word of the next task: a service that goes on has its stamp left to write, one that ends its counts
abbrev pub after_next : Ending → Origin → Phase
after_next (endings.Next task) origin = WriteStamp
after_next _ origin = end_phase origin

-- a finished queue event is acknowledged and released
abbrev pub release_phase : Origin → Phase
release_phase (origins.Source source count) = StoreAck source count
release_phase (origins.Pipe pipe item) = Over
release_phase (origins.Timer timer deadline) = Over

-- behind the commit: a service that goes on is over, one that ends releases its event
abbrev pub after_commit : Ending → Origin → Phase
after_commit (endings.Next task) origin = Over
after_commit _ origin = release_phase origin

-- a running chain goes on with its task, unless it has expired
abbrev pub after_resume : Program → TaskMachine → (late : Bool) → (word : ℕ) → TaskMachine
after_resume program r true word = record r { ending = endings.Expired; phase = end_phase r.pick.event.origin }
after_resume program r false word = after_fetch program r (instr_of (decoded word))

-- with so many items written: the item is stored where there is room, else the register says that there was none
abbrev pub after_written : Program → TaskMachine → Sending → (taken written : ℕ) → TaskMachine
after_written program r s taken written =
    if has_room (pipe_def program s.pipe).places written taken
    then at_phase r (StoreItem s written)
    else proceed program r (advance_with (cpu_of r.execution) s.register 0)

-- the registers after a phase, whose access found this word
abbrev pub after : Program → TaskMachine → Phase → ℕ → TaskMachine
after program r WriteFirst word = at_phase r WriteOrigin
after program r WriteOrigin word = at_phase r WriteValue
after program r WriteValue word = after_value program r r.pick.event.origin
after program r WriteTaken word = after_event program r r.ending
after program r ReadPeriod word = at_phase r (WriteDue (after_service r.pick.due_word word))
after program r (WriteDue w) word = after_event program r r.ending
after program r Resume word = after_resume program r (is_late program r) word
after program r Fetch word = after_fetch program r (instr_of (decoded word))
after program r (ReadState a n) word = proceed program r (advance_with (cpu_of r.execution) a (word % 2 ^ 32))
after program r (WriteState n v) word = proceed program r (advance (cpu_of r.execution))
after program r (ReadCount v) word = if nat_lt word (thread_def program r.pick.thread.0).log then at_phase r (StoreLog word v) else trap r
after program r (StoreLog n v) word = at_phase r (WriteCount (n + 1))
after program r (WriteCount n) word = proceed program r (advance (cpu_of r.execution))
after program r (LoadReader s) word = at_phase r (LoadTaken s word)
after program r (LoadTaken s commit) word = at_phase r (ReadWritten s word)
after program r (ReadWritten s taken) word = after_written program r s taken word
after program r (StoreItem s written) word = at_phase r (WriteWritten s written)
after program r (WriteWritten s written) word = proceed program r (advance_with (cpu_of r.execution) s.register 1)
after program r (WriteArmed timer delay period) word = at_phase r (WritePeriod timer period)
after program r (WritePeriod timer period) word = proceed program r (advance (cpu_of r.execution))
after program r (WriteStopped timer) word = proceed program r (advance (cpu_of r.execution))
after program r WriteNext word = at_phase r (after_next r.ending r.pick.event.origin)
after program r WriteFinished word = at_phase r ReadTotal
after program r ReadTotal word = at_phase r (WriteTotal (word + 1))
after program r (WriteTotal n) word = at_phase r WriteStamp
after program r WriteStamp word = at_phase r StoreCommit
after program r StoreCommit word = at_phase r (after_commit r.ending r.pick.event.origin)
after program r (StoreAck source count) word = at_phase r StoreEmpty
after program r StoreEmpty word = at_phase r Over
after program r Over word = r

-- a write to a clean page first copies it, a word at a time
abbrev pub after_action : Program → TaskMachine → Action → ℕ → TaskMachine
after_action program r (Put w v) word =
    if is_dirty r.buffer (w / 8) then after program r r.phase word else record r { buffer = after_copy r.buffer (w / 8) r.buffer.copying word }
after_action program r (Get w) word = after program r r.phase word
after_action program r (Make access) word = after program r r.phase word

-- the registers behind an access that found this word
abbrev pub take : Program → TaskMachine → ℕ → TaskMachine
take program r word = after_action program r (action program r r.phase) word

-- what the access of a phase means to the never-cut kernel
abbrev pub point_at : TaskMachine → Phase → KernelPoint
point_at r StoreCommit = points.Commit r.pick.thread
point_at r StoreEmpty = points.Release r.pick.thread
point_at r _ = points.Nothing

-- the entry that the next access writes, if any
abbrev pub point : TaskMachine → KernelPoint
point r = point_at r r.phase

-- the seat of the event that is served
abbrev pub slot_of : TaskMachine → SlotAt
slot_of r = record { thread = r.pick.thread; position = r.pick.position }

-- the event that the access of a phase acknowledges or releases
abbrev pub slot_at : TaskMachine → Phase → Option SlotAt
slot_at r (StoreAck source count) = Some (slot_of r)
slot_at r StoreEmpty = Some (slot_of r)
slot_at r _ = None

-- nothing is left to do
abbrev pub is_over : Phase → Bool
is_over Over = true
is_over _ = false

-- the task of a running chain; 0 where there is none yet
abbrev pub running_task : Option TaskId → TaskId
running_task None = record { 0 = 0 }
running_task (Some task) = task

-- the registers before the first access of the service that a scan picked
abbrev pub begin : Pick → ℕ → TaskMachine
begin pick stamp =
    record {
      pick = pick;
      stamp = stamp;
      buffer = no_writes pick.commit_word;
      ending = endings.Done;
      execution = execution_of (running_task pick.running);
      phase = first_phase pick.running;
    }
