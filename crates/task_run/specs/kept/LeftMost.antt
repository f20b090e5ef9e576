-- How many accesses the service of a pick has left at most, by its registers alone: whatever words it finds.
use Rattle.std.specs.Prelude.{ℕ, zero, suc, ◌+◌, ◌-◌, ◌*◌, ◌<◌, ◌==◌, if◌then◌else◌}
use Rattle.std.specs.Int.{bit_at}
use Rattle.thread_state.specs.Pages.{Copying, Loading, Storing}
use Rattle.task_isa.specs.declared.program.Program.{Program}
use Rattle.prog_check.specs.Lookup.{thread_def, task_def, first_task}
use Rattle.ink_layout.specs.Shape.{pages_of}
use Rattle.task_run.specs.declared.ending.Ending.{Ending}
use Rattle.task_run.specs.declared.ending.Ending.TheVariants as endings
use Rattle.task_run.specs.declared.execution.Execution.{Execution}
use Rattle.task_run.specs.declared.phase.Phase.{Phase}
use Rattle.task_run.specs.declared.phase.Phase.TheVariants.{WriteFirst, WriteOrigin, WriteValue, WriteTaken, ReadPeriod, WriteDue, Resume, Fetch, ReadState, WriteState, ReadCount, StoreLog, WriteCount, LoadReader, LoadTaken, ReadWritten, StoreItem, WriteWritten, WriteArmed, WritePeriod, WriteStopped, WriteNext, WriteFinished, ReadTotal, WriteTotal, WriteStamp, StoreCommit, StoreAck, StoreEmpty, Over}
use Rattle.task_run.specs.declared.machine.TaskMachine.{TaskMachine}

-- the event's words: five of a timer's
abbrev pub event_most : ℕ
event_most = 5

-- the end, the commit and the release
abbrev pub end_most : ℕ
end_most = 8

-- an instruction with its fetch: six of a send
abbrev pub instr_most : ℕ
instr_most = 6

-- the copying of a page: a load and a store for each of its words
abbrev pub copy_most : ℕ
copy_most = 16

-- how many accesses of the copying of a page were made
abbrev pub copied : Copying → ℕ
copied (Loading k) = 2 * k
copied (Storing k v) = 2 * k + 1

-- the copying is at a word of the page
abbrev pub IsInPage : Copying → Type 0
IsInPage (Loading k) = k < 8
IsInPage (Storing k v) = k < 8

-- how many of the first so many pages aren't dirty
abbrev pub clean_pages : (dirty pages : ℕ) → ℕ
clean_pages dirty zero = 0
clean_pages dirty (suc page) = (if bit_at dirty page == 1 then 0 else 1) + clean_pages dirty page

-- the pages of a thread's block
abbrev pub block_pages : Program → (t : ℕ) → ℕ
block_pages program t = pages_of (thread_def program t)

-- the copying of the pages that aren't dirty, but for what was made of it
abbrev pub copies_left : Program → TaskMachine → ℕ
copies_left program r = copy_most * clean_pages r.buffer.dirty (block_pages program r.pick.thread.0) - copied r.buffer.copying

-- after a trap: all pages are copied and the event's words written once more, before the end
abbrev pub again_most : Program → (t : ℕ) → ℕ
again_most program t = copy_most * block_pages program t + event_most + end_most

-- the instructions that may follow the one at hand
abbrev pub following : Program → Execution → ℕ
following program x = instr_most * ((task_def program x.task.0).limit - (x.executed + 1))

-- within a run: so much of the instruction at hand, those that may follow, and what a trap at the last of them makes necessary
abbrev pub running_most : Program → TaskMachine → (instr : ℕ) → ℕ
running_most program r instr = instr + following program r.execution + again_most program r.pick.thread.0

-- behind the event's words: the run of the thread's first task, unless it has trapped
abbrev pub behind_event : Program → (t : ℕ) → Ending → ℕ
behind_event program t endings.Done = instr_most + instr_most * ((task_def program (first_task program t)).limit - 1) + again_most program t
behind_event program t _ = end_most

-- the event's words from here on, and what is behind them
abbrev pub event_left : Program → TaskMachine → (words : ℕ) → ℕ
event_left program r words = words + behind_event program r.pick.thread.0 r.ending

-- what is left in a phase, copies aside
abbrev pub left_in : Program → TaskMachine → Phase → ℕ
left_in program r WriteFirst = event_left program r event_most
left_in program r WriteOrigin = event_left program r 4
left_in program r WriteValue = event_left program r 3
left_in program r WriteTaken = event_left program r 1
left_in program r ReadPeriod = event_left program r 2
left_in program r (WriteDue w) = event_left program r 1
left_in program r Resume = running_most program r instr_most
left_in program r Fetch = running_most program r instr_most
left_in program r (ReadState a n) = running_most program r 1
left_in program r (WriteState n v) = running_most program r 1
left_in program r (ReadCount v) = running_most program r 3
left_in program r (StoreLog n v) = running_most program r 2
left_in program r (WriteCount n) = running_most program r 1
left_in program r (LoadReader s) = running_most program r 5
left_in program r (LoadTaken s commit) = running_most program r 4
left_in program r (ReadWritten s taken) = running_most program r 3
left_in program r (StoreItem s written) = running_most program r 2
left_in program r (WriteWritten s written) = running_most program r 1
left_in program r (WriteArmed timer delay period) = running_most program r 2
left_in program r (WritePeriod timer period) = running_most program r 1
left_in program r (WriteStopped timer) = running_most program r 1
left_in program r WriteNext = end_most
left_in program r WriteFinished = 7
left_in program r ReadTotal = 6
left_in program r (WriteTotal n) = 5
left_in program r WriteStamp = 4
left_in program r StoreCommit = 3
left_in program r (StoreAck source count) = 2
left_in program r StoreEmpty = 1
left_in program r Over = 0

-- Each access of a service that isn't over lowers this by at least one.
abbrev pub left_most : Program → TaskMachine → ℕ
left_most program r = copies_left program r + left_in program r r.phase
