-- Which words the board of a program has.
use Rattle.std.specs.Prelude.{ℕ, ◌+◌, ◌/◌, ◌<◌, ◌≤◌, List, All, length, map}
use Rattle.ink_base.specs.declared.limits.TheConstants as limits
use Rattle.task_isa.specs.declared.program.ThreadDef.{ThreadDef}
use Rattle.task_isa.specs.declared.program.PipeDef.{PipeDef}
use Rattle.task_isa.specs.declared.program.Task.{Task}
use Rattle.task_isa.specs.declared.program.Program.{Program}
use Rattle.prog_check.specs.Lookup.{thread_def, pipe_def, task_def}
use Rattle.fram_words.specs.Places.{Place, Code, Commit, Page, Log, Ring, Tail, Slot, Ack, Clock, Src}
use Rattle.fram_words.specs.Header as header
use Rattle.fram_words.specs.Shape.{Shape, ThreadShape, regions, words_before}

-- the state stands behind the header
abbrev pub block_words : ThreadDef → ℕ
block_words thread = header.words + thread.state

-- a page has eight words; header and state have pages of their own
abbrev pub pages_of : ThreadDef → ℕ
pages_of thread = header.words / 8 + (thread.state + 7) / 8

-- a thread has its pages, and as many output words as it declares
abbrev pub thread_shape : ThreadDef → ThreadShape
thread_shape thread = record { pages = pages_of thread; log = thread.log }

-- an instruction is one word
abbrev pub task_words : Task → ℕ
task_words task = length task.code

-- an item of a pipe is one word
abbrev pub pipe_words : PipeDef → ℕ
pipe_words pipe = pipe.places

-- a slot of a queue is one word
abbrev pub queue_words : ThreadDef → ℕ
queue_words thread = thread.queue

-- a word for each instruction; the pages and the log of each thread; the places of each pipe and queue; and the sources
abbrev pub shape_of : Program → Shape
shape_of program =
    record {
      tasks = map task_words program.tasks;
      threads = map thread_shape program.threads;
      pipes = map pipe_words program.pipes;
      queues = map queue_words program.threads;
      sources = length program.sources;
    }

-- no task has more instructions than all tasks of a program can have
abbrev pub AreShort : List Task → Type 0
AreShort tasks = All (λ task. length task.code ≤ limits.INSTRUCTIONS) tasks

-- how many words there are
abbrev pub words_of : Shape → ℕ
words_of s = words_before (regions s) (length (regions s))

-- the places of the program's board
abbrev pub IsOnBoard : Program → Place → Type 0
IsOnBoard program (Code x n) = (x < length program.tasks) × (n < length (task_def program x).code)
IsOnBoard program (Commit t) = t < length program.threads
IsOnBoard program (Page t p b k) = (t < length program.threads) × (p < pages_of (thread_def program t)) × (b < 2) × (k < 8)
IsOnBoard program (Log t n) = (t < length program.threads) × (n < (thread_def program t).log)
IsOnBoard program (Ring q n) = (q < length program.pipes) × (n < (pipe_def program q).places)
IsOnBoard program (Tail t) = t < length program.threads
IsOnBoard program (Slot t n) = (t < length program.threads) × (n < (thread_def program t).queue)
IsOnBoard program (Ack i) = i < length program.sources
IsOnBoard program Clock = Unit {0}
IsOnBoard program (Src i) = i < length program.sources
