-- How many accesses the service of a pick takes at most.
use Rattle.std.specs.Prelude.{◌≡◌, ℕ, ◌<◌, ◌≤◌, false, List, [], ◌∷◌, length, Option, Some, None}
use Rattle.ink_base.specs.declared.ids.TaskId.{TaskId}
use Rattle.task_isa.specs.declared.program.Program.{Program}
use Rattle.prog_check.specs.Accepted.{IsAccepted}
use Rattle.prog_check.specs.Lookup.{task_def, first_task}
use Rattle.ink_layout.specs.declared.pick.Pick.{Pick}
use Rattle.never_cut.specs.Bounds.{task_bound}
use Rattle.never_cut.specs.Ranges.{no_count, IsAnswerTo, IsPickOf}
use Rattle.task_run.specs.declared.machine.TaskMachine.{TaskMachine}
use Rattle.task_run.specs.Machine.{want, take, begin, is_over}
use Rattle.task_run.specs.Reached.{task_loaded}

-- accesses that the machine makes, one after the other and none once it is over, and that find these words, each in the range of its place
abbrev pub AreServed : Program → TaskMachine → (words : List ℕ) → Type 0
AreServed program r [] = Unit {0}
AreServed program r (word ∷ words) =
    (is_over r.phase ≡ false) × IsAnswerTo program (task_loaded r) (want program r) word × AreServed program (take program r word) words

-- the task of a running chain, or the thread's first one
abbrev pub task_by : Program → (t : ℕ) → Option TaskId → ℕ
task_by program t (Some task) = task.0
task_by program t None = first_task program t

-- the task that serves a pick
abbrev pub task_of : Program → Pick → ℕ
task_of program pick = task_by program pick.thread.0 pick.running

-- Whatever words it finds, the service of a pick is over after as many accesses as the bound of its task says, or earlier.
abbrev pub EveryServiceEnds : Type 0
EveryServiceEnds =
    (program : Program) (pick : Pick) (stamp : ℕ) (words : List ℕ) → IsAccepted program → IsPickOf program pick → stamp < no_count →
    AreServed program (begin pick stamp) words → length words ≤ task_bound program (task_def program (task_of program pick))
