-- The first fault of a program, judged in two steps.
use Rattle.std.specs.Prelude.{ℕ, zero, suc, ◌-◌, Bool, true, not, ◌&&◌, ◌||◌, List, [], length, take, Option, Some, None, is_some, Result, Ok, Err, nat_le, nat_lt, ◌==◌, if◌then◌else◌, slice_index, slice_index_or}
use Rattle.std.specs.List.{list_any}
use Rattle.std.specs.Option.{option_or}
use Rattle.std.specs.Str.{bytes_eq}
use Rattle.ink_base.specs.declared.fault.Cause.{Cause}
use Rattle.ink_base.specs.declared.fault.Cause.TheVariants.{OverLimit, Duplicate, BadOwner, BadTarget, Missing}
use Rattle.ink_base.specs.declared.fault.JobFault.{JobFault}
use Rattle.ink_base.specs.declared.fault.JobAnswer.{JobAnswer}
use Rattle.ink_base.specs.declared.fault.JobAnswer.TheVariants.{Fault}
use Rattle.ink_base.specs.declared.limits.TheConstants as limits
use Rattle.task_isa.specs.declared.instr.Instr.{Instr}
use Rattle.task_isa.specs.declared.instr.Instr.TheVariants.{Jmp, Jz, Jnz, Send, Arm, Stop, Next}
use Rattle.task_isa.specs.declared.lines.Lines.{Lines}
use Rattle.task_isa.specs.declared.program.ThreadDef.{ThreadDef}
use Rattle.task_isa.specs.declared.program.PipeDef.{PipeDef}
use Rattle.task_isa.specs.declared.program.TimerDef.{TimerDef}
use Rattle.task_isa.specs.declared.program.Task.{Task}
use Rattle.task_isa.specs.declared.program.Program.{Program}
use Rattle.prog_check.specs.Lookup.{thread_def, source_thread, pipe_def, timer_def, task_def, instr_at, code_len}
use Rattle.prog_check.specs.Accepted.{ends_code}

-- a fault, unless this holds
abbrev pub unless : Bool → ℕ → Cause → Option JobFault
unless holds line cause = if holds then None else Some (record { line = line; cause = cause })

-- the first fault, or else the second
infixr 4 ◌or_else◌
abbrev pub ◌or_else◌ : Option JobFault → Option JobFault → Option JobFault
p or_else q = option_or p q

-- the first fault of the numbers below a count
unfoldable pub first_below : (ℕ → Option JobFault) → ℕ → Option JobFault
first_below fault zero = None
first_below fault (suc n) = first_below fault n or_else fault n

-- the line of a thread
abbrev pub thread_line : Lines → ℕ → ℕ
thread_line lines t = slice_index lines.threads t

-- that of a task
abbrev pub task_line : Lines → ℕ → ℕ
task_line lines x = slice_index lines.tasks x

-- that of an instruction of a task
abbrev pub instr_line : Lines → ℕ → ℕ → ℕ
instr_line lines x n = slice_index (slice_index_or lines.code x []) n

-- a number from the least to the greatest
abbrev pub is_between : ℕ → ℕ → ℕ → Bool
is_between least greatest n = nat_le least n && nat_le n greatest

-- no time, or one of so many ticks as a job may name
abbrev pub is_time : Option ℕ → Bool
is_time None = true
is_time (Some ticks) = nat_le ticks limits.TICKS

-- First step: numbers out of their range, then names and priorities that are taken, then ids of nothing or of another thread.

-- a number that is one of a thread
abbrev pub has_thread : Program → ℕ → Bool
has_thread program t = nat_lt t (length program.threads)

-- the places of its queue, its state, its log and its time are within their limits
abbrev pub is_thread_within : ThreadDef → Bool
is_thread_within thread =
    is_between limits.FEWEST_QUEUE_PLACES limits.QUEUE_PLACES thread.queue
    && (nat_le thread.state limits.STATE_NUMBERS && (is_between 1 limits.LOG_PLACES thread.log && is_time thread.expires))

-- a thread before this one has its name or its priority
abbrev pub is_thread_taken : List ThreadDef → ThreadDef → Bool
is_thread_taken before thread = list_any (λ (other : ThreadDef). bytes_eq other.name thread.name || other.priority == thread.priority) before

-- a number out of its range, or a name or priority that is taken
unfoldable pub thread_fault : Program → Lines → ℕ → Option JobFault
thread_fault program lines t =
    unless (is_thread_within (thread_def program t)) (thread_line lines t) OverLimit
    or_else unless (not (is_thread_taken (take t program.threads) (thread_def program t))) (thread_line lines t) Duplicate

-- a source that feeds no thread
unfoldable pub source_fault : Program → Lines → ℕ → Option JobFault
source_fault program lines i = unless (has_thread program (source_thread program i)) lines.program BadOwner

-- a pipe goes from one thread to another
abbrev pub is_pipe_owned : Program → PipeDef → Bool
is_pipe_owned program pipe =
    has_thread program pipe.writer.0 && (has_thread program pipe.reader.0 && not (pipe.writer.0 == pipe.reader.0))

-- a pipe before this one has its name
abbrev pub is_pipe_taken : List PipeDef → PipeDef → Bool
is_pipe_taken before pipe = list_any (λ (other : PipeDef). bytes_eq other.name pipe.name) before

-- places out of their range, a name that is taken, or no two threads
unfoldable pub pipe_fault : Program → Lines → ℕ → Option JobFault
pipe_fault program lines q =
    unless (is_between 1 limits.PIPE_PLACES (pipe_def program q).places) lines.program OverLimit
    or_else unless (not (is_pipe_taken (take q program.pipes) (pipe_def program q))) lines.program Duplicate
    or_else unless (is_pipe_owned program (pipe_def program q)) lines.program BadOwner

-- a timer that is off has no period
abbrev pub is_timer_within : TimerDef → Bool
is_timer_within timer = is_time timer.due && (nat_le timer.period limits.TICKS && (is_some timer.due || timer.period == 0))

-- a timer before this one has its name
abbrev pub is_timer_taken : List TimerDef → TimerDef → Bool
is_timer_taken before timer = list_any (λ (other : TimerDef). bytes_eq other.name timer.name) before

-- a number out of its range, a name that is taken, or no thread
unfoldable pub timer_fault : Program → Lines → ℕ → Option JobFault
timer_fault program lines j =
    unless (is_timer_within (timer_def program j)) lines.program OverLimit
    or_else unless (not (is_timer_taken (take j program.timers) (timer_def program j))) lines.program Duplicate
    or_else unless (has_thread program (timer_def program j).thread.0) lines.program BadOwner

-- a pipe that is there and that the thread of the task writes
abbrev pub writes : Program → Task → ℕ → Bool
writes program task q = nat_lt q (length program.pipes) && (pipe_def program q).writer.0 == task.thread.0

-- a timer that is there and is one of the task's thread
abbrev pub sets : Program → Task → ℕ → Bool
sets program task j = nat_lt j (length program.timers) && (timer_def program j).thread.0 == task.thread.0

-- what an instruction names is there; a pipe is written and a timer owned by the task's thread
abbrev pub is_owned : Program → Task → Instr → Bool
is_owned program task (Send i a b) = writes program task i
is_owned program task (Arm i a b) = sets program task i
is_owned program task (Stop i) = sets program task i
is_owned program task (Next i) = nat_lt i (length program.tasks)
is_owned program task _ = true

-- an instruction that names what isn't there, or what isn't its thread's
unfoldable pub instr_fault : Program → Lines → ℕ → ℕ → Option JobFault
instr_fault program lines x n =
    unless (is_owned program (task_def program x) (instr_at (task_def program x) n)) (instr_line lines x n) BadOwner

-- a task before this one has its name
abbrev pub is_task_taken : List Task → Task → Bool
is_task_taken before task = list_any (λ (other : Task). bytes_eq other.name task.name) before

-- a limit out of its range, a name that is taken, no thread, or the first fault of its instructions
unfoldable pub task_fault : Program → Lines → ℕ → Option JobFault
task_fault program lines x =
    unless (is_between 1 limits.TASK_LIMIT (task_def program x).limit) (task_line lines x) OverLimit
    or_else unless (not (is_task_taken (take x program.tasks) (task_def program x))) (task_line lines x) Duplicate
    or_else unless (has_thread program (task_def program x).thread.0) (task_line lines x) BadOwner
    or_else first_below (instr_fault program lines x) (length (task_def program x).code)

-- a kind of declaration: their number, and then each of them
abbrev pub kind_fault : Lines → ℕ → ℕ → (ℕ → Option JobFault) → Option JobFault
kind_fault lines count greatest fault = unless (nat_le count greatest) lines.program OverLimit or_else first_below fault count

-- the number of tasks and that of all instructions, and then each task
abbrev pub tasks_fault : Program → Lines → Option JobFault
tasks_fault program lines =
    unless (nat_le (length program.tasks) limits.TASKS) lines.program OverLimit
    or_else unless (nat_le (code_len program) limits.INSTRUCTIONS) lines.program OverLimit
    or_else first_below (task_fault program lines) (length program.tasks)

-- the kinds in the order of a canonical text
unfoldable pub limit_fault : Program → Lines → Option JobFault
limit_fault program lines =
    kind_fault lines (length program.threads) limits.THREADS (thread_fault program lines)
    or_else kind_fault lines (length program.sources) limits.SOURCES (source_fault program lines)
    or_else kind_fault lines (length program.pipes) limits.PIPES (pipe_fault program lines)
    or_else kind_fault lines (length program.timers) limits.TIMERS (timer_fault program lines)
    or_else tasks_fault program lines

-- Second step: threads without a task, then targets, and code without an end.

-- some task is of this thread
abbrev pub has_task : List Task → ℕ → Bool
has_task tasks t = list_any (λ (task : Task). task.thread.0 == t) tasks

-- a thread without a task
abbrev pub served_fault : Program → Lines → ℕ → Option JobFault
served_fault program lines t = unless (has_task program.tasks t) (thread_line lines t) Missing

-- a jump stays in its task
abbrev pub is_aimed : Task → Instr → Bool
is_aimed task (Jmp i) = nat_lt i (length task.code)
is_aimed task (Jz a i) = nat_lt i (length task.code)
is_aimed task (Jnz a i) = nat_lt i (length task.code)
is_aimed task _ = true

-- a task that is there and is of the same thread
abbrev pub is_of_thread : Program → Task → ℕ → Bool
is_of_thread program task next = nat_lt next (length program.tasks) && (task_def program next).thread.0 == task.thread.0

-- the next task is one of the same thread
abbrev pub stays : Program → Task → Instr → Bool
stays program task (Next i) = is_of_thread program task i
stays program task _ = true

-- a jump out of its task, or a next task of another thread
unfoldable pub target_fault : Program → Lines → ℕ → ℕ → Option JobFault
target_fault program lines x n =
    unless (is_aimed (task_def program x) (instr_at (task_def program x) n)) (instr_line lines x n) BadTarget
    or_else unless (stays program (task_def program x) (instr_at (task_def program x) n)) (instr_line lines x n) BadOwner

-- code that isn't empty and ends
abbrev pub has_end : Task → Bool
has_end task = nat_lt 0 (length task.code) && ends_code (instr_at task (length task.code - 1))

-- the first fault of a task's targets, or code without an end
unfoldable pub code_fault : Program → Lines → ℕ → Option JobFault
code_fault program lines x =
    first_below (target_fault program lines x) (length (task_def program x).code)
    or_else unless (has_end (task_def program x)) (task_line lines x) Missing

-- no thread, then threads without a task, then the code of each task
unfoldable pub meaning_fault : Program → Lines → Option JobFault
meaning_fault program lines =
    unless (nat_lt 0 (length program.threads)) lines.program Missing
    or_else first_below (served_fault program lines) (length program.threads)
    or_else first_below (code_fault program lines) (length program.tasks)

-- the first fault of a program, or none
unfoldable pub first_fault : Program → Lines → Option JobFault
first_fault program lines = limit_fault program lines or_else meaning_fault program lines

-- what judging a program with this first fault answers
abbrev pub verdict : Program → Option JobFault → Result Program JobAnswer
verdict program None = Ok program
verdict program (Some fault) = Err (Fault fault)
