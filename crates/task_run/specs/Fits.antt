-- The ranges in which an access of a task can be made.
use Rattle.std.specs.Prelude.{ℕ, ◌+◌, ◌^◌, ◌<◌, ◌≤◌, length, Option, Some}
use Rattle.ink_base.specs.declared.limits.TheConstants as limits
use Rattle.ink_base.specs.declared.ids.TaskId.{TaskId}
use Rattle.fram_words.specs.Held.{FitsOrigin}
use Rattle.task_isa.specs.declared.program.Program.{Program}
use Rattle.prog_check.specs.Lookup.{thread_def, pipe_def, task_def}
use Rattle.task_run.specs.declared.execution.Execution.{Execution}
use Rattle.task_run.specs.declared.sending.Sending.{Sending}
use Rattle.task_run.specs.declared.phase.Phase.{Phase}
use Rattle.task_run.specs.declared.phase.Phase.TheVariants.{WriteOrigin, WriteTaken, ReadPeriod, WriteDue, Resume, Fetch, ReadState, WriteState, StoreLog, WriteCount, LoadReader, LoadTaken, ReadWritten, StoreItem, WriteWritten, WriteArmed, WritePeriod, WriteStopped, ReadTotal, StoreAck, Over}
use Rattle.task_run.specs.declared.machine.TaskMachine.{TaskMachine}
use Rattle.task_run.specs.Actions.{device}

-- an instruction of the task is executed
pub record FitsExecution (program : Program) (x : Execution) : Type 0 where
  pub task : x.task.0 < length program.tasks
  pub inside : x.at < length (task_def program x.task.0).code
  pub small : x.at < limits.INSTRUCTIONS
  pub few : x.executed < limits.TASK_LIMIT
  pub left : x.executed < (task_def program x.task.0).limit

-- an instruction is executed that sends to a pipe of the program
abbrev pub FitsSending : Program → Execution → Sending → Type 0
FitsSending program x s = FitsExecution program x × (s.pipe < length program.pipes)

-- or that sets a timer of the program
abbrev pub FitsSetting : Program → Execution → (timer : ℕ) → Type 0
FitsSetting program x timer = FitsExecution program x × (timer < length program.timers)

-- a chain that goes on began at or before the scan
abbrev pub FitsChain : Option ℕ → Option TaskId → (first time : ℕ) → Type 0
FitsChain (Some ticks) (Some task) first time = first ≤ time
FitsChain _ _ first time = Unit {0}

-- the numbers of a phase are in their ranges
abbrev pub FitsPhase : Program → TaskMachine → Phase → Type 0
FitsPhase program r WriteOrigin = FitsOrigin r.pick.event.origin
FitsPhase program r WriteTaken = (device r < limits.PIPES) × (r.pick.taken < 2 ^ 32)
FitsPhase program r ReadPeriod = (device r < limits.TIMERS) × (1 ≤ r.pick.due_word) × (r.pick.due_word ≤ 2 ^ 48)
FitsPhase program r (WriteDue w) = device r < limits.TIMERS
FitsPhase program r Resume = FitsExecution program r.execution × FitsChain (thread_def program r.pick.thread.0).expires r.pick.running r.pick.first r.pick.time
FitsPhase program r Fetch = FitsExecution program r.execution
FitsPhase program r (ReadState a n) = FitsExecution program r.execution × (n < (thread_def program r.pick.thread.0).state)
FitsPhase program r (WriteState n v) = FitsExecution program r.execution × (n < (thread_def program r.pick.thread.0).state)
FitsPhase program r (StoreLog n v) = n < (thread_def program r.pick.thread.0).log
FitsPhase program r (WriteCount n) = FitsExecution program r.execution
FitsPhase program r (LoadReader s) = FitsSending program r.execution s
FitsPhase program r (LoadTaken s commit) = FitsSending program r.execution s
FitsPhase program r (ReadWritten s taken) = FitsSending program r.execution s × (taken < 2 ^ 32)
FitsPhase program r (StoreItem s written) = FitsSending program r.execution s × (written < 2 ^ 33)
FitsPhase program r (WriteWritten s written) = FitsSending program r.execution s × (written < 2 ^ 33)
FitsPhase program r (WriteArmed timer delay period) = FitsSetting program r.execution timer
FitsPhase program r (WritePeriod timer period) = FitsSetting program r.execution timer
FitsPhase program r (WriteStopped timer) = FitsSetting program r.execution timer
FitsPhase program r (StoreAck source count) = source.0 < length program.sources
FitsPhase program r Over = ⊥
FitsPhase program r _ = Unit {0}

-- the word that the access of a phase finds is in its range
abbrev pub FitsWord : Program → Phase → (word : ℕ) → Type 0
FitsWord program ReadPeriod word = word < 2 ^ 32
FitsWord program (LoadTaken s commit) word = word < 2 ^ 32
FitsWord program (ReadWritten s taken) word = (taken ≤ word) × (word ≤ taken + (pipe_def program s.pipe).places)
FitsWord program ReadTotal word = word + 1 < 2 ^ 64
FitsWord program _ word = Unit {0}

-- the registers can make their next access
pub record FitsTask (program : Program) (r : TaskMachine) : Type 0 where
  pub thread : r.pick.thread.0 < length program.threads
  pub stamp : r.stamp + 1 < 2 ^ 32
  pub time : r.pick.time < 2 ^ 47
  pub position : r.pick.position + (thread_def program r.pick.thread.0).queue < 2 ^ 21
  pub phase : FitsPhase program r r.phase
