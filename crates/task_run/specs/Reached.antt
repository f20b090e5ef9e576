-- The registers that the service of a pick comes to from words in their ranges.
use Rattle.std.specs.Prelude.{◌≡◌, ℕ, ◌+◌, ◌<◌, false, length, Option, Some, None}
use Rattle.task_isa.specs.declared.program.Program.{Program}
use Rattle.prog_check.specs.Lookup.{task_def}
use Rattle.never_cut.specs.Ranges.{Loaded, IsPickOf}
use Rattle.task_run.specs.declared.execution.Execution.{Execution}
use Rattle.task_run.specs.declared.phase.Phase.{Phase}
use Rattle.task_run.specs.declared.phase.Phase.TheVariants.{WriteFirst, WriteOrigin, WriteValue, WriteTaken, ReadPeriod, WriteDue, ReadState, WriteState, ReadCount, StoreLog, WriteCount, LoadReader, LoadTaken, ReadWritten, StoreItem, WriteWritten, WriteArmed, WritePeriod, WriteStopped}
use Rattle.task_run.specs.declared.machine.TaskMachine.{TaskMachine}
use Rattle.task_run.specs.Fits.{FitsExecution, FitsTask}

-- the count of taken items that was loaded before that of the written ones
abbrev pub taken_before : Phase → Option ℕ
taken_before (ReadWritten s taken) = Some taken
taken_before _ = None

-- what was loaded before the word of a phase: the scan's time, and the count of taken items
abbrev pub task_loaded : TaskMachine → Loaded
task_loaded r = record { time = r.pick.time; running = false; taken = taken_before r.phase }

-- an instruction is executed, and another one follows behind it
abbrev pub GoesOn : Program → Execution → Type 0
GoesOn program x = FitsExecution program x × (x.at + 1 < length (task_def program x.task.0).code)

-- what each phase has from those before it: the words of an event are written for an idle thread, and other accesses are made within an instruction
abbrev pub IsPhaseOf : Program → TaskMachine → Phase → Type 0
IsPhaseOf program r WriteFirst = r.pick.running ≡ None
IsPhaseOf program r WriteOrigin = r.pick.running ≡ None
IsPhaseOf program r WriteValue = r.pick.running ≡ None
IsPhaseOf program r WriteTaken = r.pick.running ≡ None
IsPhaseOf program r ReadPeriod = r.pick.running ≡ None
IsPhaseOf program r (WriteDue w) = r.pick.running ≡ None
IsPhaseOf program r (ReadState a n) = GoesOn program r.execution
IsPhaseOf program r (WriteState n v) = GoesOn program r.execution
IsPhaseOf program r (ReadCount v) = GoesOn program r.execution
IsPhaseOf program r (StoreLog n v) = GoesOn program r.execution
IsPhaseOf program r (WriteCount n) = GoesOn program r.execution
IsPhaseOf program r (LoadReader s) = GoesOn program r.execution
IsPhaseOf program r (LoadTaken s commit) = GoesOn program r.execution
IsPhaseOf program r (ReadWritten s taken) = GoesOn program r.execution
IsPhaseOf program r (StoreItem s written) = GoesOn program r.execution
IsPhaseOf program r (WriteWritten s written) = GoesOn program r.execution
IsPhaseOf program r (WriteArmed timer delay period) = GoesOn program r.execution
IsPhaseOf program r (WritePeriod timer period) = GoesOn program r.execution
IsPhaseOf program r (WriteStopped timer) = GoesOn program r.execution
IsPhaseOf program r _ = Unit {0}

-- registers that the service of a pick comes to before it is over, where every word that it took was in the range of its place
pub record IsServiceOf (program : Program) (r : TaskMachine) : Type 0 where
  pub pick : IsPickOf program r.pick
  pub fits : FitsTask program r
  pub phase : IsPhaseOf program r r.phase
