-- How many accesses the parts of a charge take at most.
use Rattle.std.specs.Prelude.{ℕ, ◌+◌, ◌*◌, max, List, [], ◌∷◌, length}
use Rattle.task_isa.specs.declared.program.Program.{Program}
use Rattle.task_isa.specs.declared.program.Task.{Task}
use Rattle.prog_check.specs.Lookup.{thread_def}
use Rattle.ink_layout.specs.Shape.{pages_of}

-- a boot: four words of each thread, and the acknowledgement and the release of the one event that may be finished
abbrev pub boot_bound : Program → ℕ
boot_bound program = 4 * length program.threads + 2

-- a scan, from its load of CLOCK to the access that ends it: four words of each thread, three of each pipe, one of each timer, and two more for a pick
abbrev pub scan_bound : Program → ℕ
scan_bound program = 4 * length program.threads + 3 * length program.pipes + length program.timers + 3

-- the service of a pick by a task: two copies of the block's pages, six accesses for each instruction, and the event twice, the end, the commit and the release
abbrev pub task_bound : Program → Task → ℕ
task_bound program task = 32 * pages_of (thread_def program task.thread.0) + 6 * task.limit + 18

-- the greatest of these bounds
abbrev pub greatest_of : Program → List Task → ℕ
greatest_of program [] = 0
greatest_of program (task ∷ tasks) = max (task_bound program task) (greatest_of program tasks)

-- a scan and the service of its pick
abbrev pub round_bound : Program → ℕ
round_bound program = scan_bound program + greatest_of program program.tasks
