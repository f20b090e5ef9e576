-- The parts of a program by their numbers. A number that no part has gets a part with nothing in it.
use Rattle.std.specs.Prelude.{ℕ, [], None, slice_index_or, length, sum_by, ◌==◌}
use Rattle.std.specs.List.{position_or_len}
use Rattle.ink_base.specs.declared.ids.ThreadId.{ThreadId}
use Rattle.task_isa.specs.declared.instr.Instr.{Instr}
use Rattle.task_isa.specs.declared.instr.Instr.TheVariants.{Done}
use Rattle.task_isa.specs.declared.program.ThreadDef.{ThreadDef}
use Rattle.task_isa.specs.declared.program.PipeDef.{PipeDef}
use Rattle.task_isa.specs.declared.program.TimerDef.{TimerDef}
use Rattle.task_isa.specs.declared.program.Task.{Task}
use Rattle.task_isa.specs.declared.program.Program.{Program}

-- a number that no thread has
abbrev pub no_thread : ThreadId
no_thread = record { 0 = 255 }

-- what stands for a thread that isn't declared
abbrev pub no_thread_def : ThreadDef
no_thread_def = record { name = []; priority = 0; queue = 0; state = 0; log = 0; expires = None }

-- for a pipe that isn't
abbrev pub no_pipe_def : PipeDef
no_pipe_def = record { name = []; places = 0; writer = no_thread; reader = no_thread }

-- for a timer that isn't
abbrev pub no_timer_def : TimerDef
no_timer_def = record { name = []; thread = no_thread; due = None; period = 0 }

-- and for a task that isn't
abbrev pub no_task_def : Task
no_task_def = record { name = []; thread = no_thread; limit = 0; code = [] }

-- the thread of a number
abbrev pub thread_def : Program → ℕ → ThreadDef
thread_def program t = slice_index_or program.threads t no_thread_def

-- the thread that a source feeds
abbrev pub source_thread : Program → ℕ → ℕ
source_thread program i = (slice_index_or program.sources i no_thread).0

-- the pipe of a number
abbrev pub pipe_def : Program → ℕ → PipeDef
pipe_def program q = slice_index_or program.pipes q no_pipe_def

-- the timer of a number
abbrev pub timer_def : Program → ℕ → TimerDef
timer_def program j = slice_index_or program.timers j no_timer_def

-- the task of a number
abbrev pub task_def : Program → ℕ → Task
task_def program x = slice_index_or program.tasks x no_task_def

-- the instruction at an offset of a task; past its code, the end of the task
abbrev pub instr_at : Task → ℕ → Instr
instr_at task n = slice_index_or task.code n Done

-- the first task of a thread, or the number of tasks where it has none
abbrev pub first_task : Program → ℕ → ℕ
first_task program t = position_or_len (λ (task : Task). task.thread.0 == t) program.tasks

-- how many instructions all tasks have
abbrev pub code_len : Program → ℕ
code_len program = sum_by (λ (task : Task). length task.code) program.tasks
