-- What an accepted program keeps: its counts and numbers are within the limits, its ids and targets are right, and its operands fit their bits.
use Rattle.std.specs.Prelude.{◌≡◌, ◌≢◌, ℕ, ◌-◌, ◌<◌, ◌≤◌, ◌^◌, Bool, true, false, IsTrue, length}
use Rattle.std.specs.Option.{ForSome, ForNone}
use Rattle.ink_base.specs.declared.limits.TheConstants as limits
use Rattle.task_isa.specs.declared.instr.Instr.{Instr}
use Rattle.task_isa.specs.declared.instr.Instr.TheVariants.{Jmp, Jz, Jnz, Send, Arm, Stop, Next, Done}
use Rattle.task_isa.specs.declared.program.ThreadDef.{ThreadDef}
use Rattle.task_isa.specs.declared.program.PipeDef.{PipeDef}
use Rattle.task_isa.specs.declared.program.TimerDef.{TimerDef}
use Rattle.task_isa.specs.declared.program.Task.{Task}
use Rattle.task_isa.specs.declared.program.Program.{Program}
use Rattle.task_isa.specs.Code.{IsInstr}
use Rattle.prog_check.specs.Lookup.{thread_def, source_thread, pipe_def, timer_def, task_def, instr_at, first_task, code_len}

-- how many declarations of each kind there are, and how many instructions
pub record HasCounts (program : Program) : Type 0 where
  pub threads_least : 1 ≤ length program.threads
  pub threads : length program.threads ≤ limits.THREADS
  pub sources : length program.sources ≤ limits.SOURCES
  pub pipes : length program.pipes ≤ limits.PIPES
  pub timers : length program.timers ≤ limits.TIMERS
  pub tasks : length program.tasks ≤ limits.TASKS
  pub code : code_len program ≤ limits.INSTRUCTIONS

-- the numbers of a thread are within their limits
pub record IsRightThread (thread : ThreadDef) : Type 0 where
  pub priority : thread.priority ≤ limits.PRIORITY
  pub queue_least : limits.FEWEST_QUEUE_PLACES ≤ thread.queue
  pub queue : thread.queue ≤ limits.QUEUE_PLACES
  pub state : thread.state ≤ limits.STATE_NUMBERS
  pub log_least : 1 ≤ thread.log
  pub log : thread.log ≤ limits.LOG_PLACES
  pub expires : ForSome thread.expires (λ ticks. ticks ≤ limits.TICKS)

-- a pipe has places, and goes from one thread to another
pub record IsRightPipe (program : Program) (pipe : PipeDef) : Type 0 where
  pub places_least : 1 ≤ pipe.places
  pub places : pipe.places ≤ limits.PIPE_PLACES
  pub writer : pipe.writer.0 < length program.threads
  pub reader : pipe.reader.0 < length program.threads
  pub other : pipe.writer.0 ≢ pipe.reader.0

-- a timer is of a thread, and has no period where it is off
pub record IsRightTimer (program : Program) (timer : TimerDef) : Type 0 where
  pub thread : timer.thread.0 < length program.threads
  pub due : ForSome timer.due (λ tick. tick ≤ limits.TICKS)
  pub period : timer.period ≤ limits.TICKS
  pub off : ForNone timer.due (timer.period ≡ 0)

-- a jump stays in the task; a pipe is written, a timer set and a task named by the thread that it belongs to
abbrev pub IsRightInstr : Program → Task → Instr → Type 0
IsRightInstr program task (Jmp i) = i < length task.code
IsRightInstr program task (Jz a i) = i < length task.code
IsRightInstr program task (Jnz a i) = i < length task.code
IsRightInstr program task (Send i a b) = (i < length program.pipes) × ((pipe_def program i).writer.0 ≡ task.thread.0)
IsRightInstr program task (Arm i a b) = (i < length program.timers) × ((timer_def program i).thread.0 ≡ task.thread.0)
IsRightInstr program task (Stop i) = (i < length program.timers) × ((timer_def program i).thread.0 ≡ task.thread.0)
IsRightInstr program task (Next i) = (i < length program.tasks) × ((task_def program i).thread.0 ≡ task.thread.0)
IsRightInstr program task _ = Unit {0}

-- an instruction behind which no other one of its task follows at once
abbrev pub ends_code : Instr → Bool
ends_code (Jmp i) = true
ends_code (Next i) = true
ends_code Done = true
ends_code _ = false

-- the operands of each instruction of a task fit their bits, so that its word is read back as it
abbrev pub HasFittingCode : Task → Type 0
HasFittingCode task = (n : ℕ) → n < length task.code → IsInstr (instr_at task n)

-- a task is of a thread, and its instructions are right and fit their words
pub record IsRightTask (program : Program) (task : Task) : Type 0 where
  pub thread : task.thread.0 < length program.threads
  pub limit_least : 1 ≤ task.limit
  pub limit : task.limit ≤ limits.TASK_LIMIT
  pub code : 0 < length task.code
  pub ends : IsTrue (ends_code (instr_at task (length task.code - 1)))
  pub instrs : (n : ℕ) → n < length task.code → IsRightInstr program task (instr_at task n)
  pub fits : HasFittingCode task

-- no two numbers below a count have one key
abbrev pub AreDistinct : {K : Type 0} → (ℕ → K) → ℕ → Type 0
AreDistinct key count = (i k : ℕ) → i < k → k < count → key i ≢ key k

-- names are distinct among the declarations of one kind, and priorities among threads
pub record HasDistinct (program : Program) : Type 0 where
  pub priorities : AreDistinct (λ t. (thread_def program t).priority) (length program.threads)
  pub threads : AreDistinct (λ t. (thread_def program t).name) (length program.threads)
  pub pipes : AreDistinct (λ q. (pipe_def program q).name) (length program.pipes)
  pub timers : AreDistinct (λ j. (timer_def program j).name) (length program.timers)
  pub tasks : AreDistinct (λ x. (task_def program x).name) (length program.tasks)

-- a program that a board accepts
pub record IsAccepted (program : Program) : Type 0 where
  pub counts : HasCounts program
  pub distinct : HasDistinct program
  pub threads : (t : ℕ) → t < length program.threads → IsRightThread (thread_def program t)
  pub sources : (i : ℕ) → i < length program.sources → source_thread program i < length program.threads
  pub pipes : (q : ℕ) → q < length program.pipes → IsRightPipe program (pipe_def program q)
  pub timers : (j : ℕ) → j < length program.timers → IsRightTimer program (timer_def program j)
  pub tasks : (x : ℕ) → x < length program.tasks → IsRightTask program (task_def program x)
  -- every thread has a task
  pub served : (t : ℕ) → t < length program.threads → first_task program t < length program.tasks
