-- How many accesses a scan has left at most, by its registers alone: whatever words it finds.
use Rattle.std.specs.Prelude.{ℕ, zero, suc, ◌+◌, ◌*◌, ◌==◌, ◌&&◌, ◌||◌, nat_lt, nat_le, Bool, if◌then◌else◌, length}
use Rattle.task_isa.specs.declared.program.Program.{Program}
use Rattle.prog_check.specs.Lookup.{pipe_def, timer_def}
use Rattle.priority_sched.specs.declared.scan_at.ScanAt.{ScanAt}
use Rattle.priority_sched.specs.declared.scan_at.ScanAt.TheVariants.{Clock, Commit, Running, Finished, Origin, Value, First, Slot, Taken, Writer, Written, Item, Timer, Picked, Quiet}
use Rattle.priority_sched.specs.declared.machine.ScanMachine.{ScanMachine}
use Rattle.priority_sched.specs.Order.{priority_of}

-- how many of the numbers below one meet a test
abbrev pub count : (ℕ → Bool) → ℕ → ℕ
count test zero = 0
count test (suc n) = (if test n then 1 else 0) + count test n

-- a thread is visited later: its priority is below this one
abbrev pub is_later : Program → (priority u : ℕ) → Bool
is_later program priority u = nat_lt (priority_of program u) priority

-- a thread's pipe or timer is loaded later: thread t's own from a number on, and those of the threads that are visited later
abbrev pub is_ahead : Program → (t from u n : ℕ) → Bool
is_ahead program t from u n = is_later program (priority_of program t) u || ((u == t) && nat_le from n)

-- the threads that are visited later
abbrev pub threads_left : Program → (priority : ℕ) → ℕ
threads_left program priority = count (is_later program priority) (length program.threads)

-- the pipes that are
abbrev pub pipes_left : Program → (t from : ℕ) → ℕ
pipes_left program t from = count (λ q. is_ahead program t from (pipe_def program q).reader.0 q) (length program.pipes)

-- and the timers
abbrev pub timers_left : Program → (t from : ℕ) → ℕ
timers_left program t from = count (λ j. is_ahead program t from (timer_def program j).thread.0 j) (length program.timers)

-- behind a word of thread t: its pipes and timers from these numbers on, the threads that are visited later with theirs, and two words of a pick
abbrev pub ahead : Program → (t pipe timer : ℕ) → ℕ
ahead program t pipe timer = 4 * threads_left program (priority_of program t) + 3 * pipes_left program t pipe + timers_left program t timer + 2

-- what is left in a row of thread t; a scan begins with the clock and all of the board
abbrev pub left_at : Program → (t : ℕ) → ScanAt → ℕ
left_at program t Clock = 4 * length program.threads + 3 * length program.pipes + length program.timers + 3
left_at program t Commit = 4 + ahead program t 0 0
left_at program t (Running c) = 3 + ahead program t 0 0
left_at program t (Finished c running) = 2 + ahead program t 0 0
left_at program t (Origin chain) = 3
left_at program t (Value chain o) = 2
left_at program t (First chain e) = 1
left_at program t (Slot c p) = 1 + ahead program t 0 0
left_at program t (Taken idle pipe) = 3 + ahead program t (pipe.0 + 1) 0
left_at program t (Writer w) = 2 + ahead program t (w.pipe.0 + 1) 0
left_at program t (Written w c) = 1 + ahead program t (w.pipe.0 + 1) 0
left_at program t (Item w) = 1
left_at program t (Timer idle timer) = 1 + ahead program t (length program.pipes) (timer.0 + 1)
left_at program t (Picked pick) = 0
left_at program t Quiet = 0

-- Each access of a scan that isn't over lowers this by at least one.
abbrev pub scan_left : Program → ScanMachine → ℕ
scan_left program scan = left_at program scan.thread.0 scan.at
