-- When the kernel commits a pick: after as many accesses as the meaning of the task costs, whatever turns of the other actors lie between.
use Rattle.std.specs.Prelude.{◌≡◌, ◌↔◌, ℕ, suc, ◌-◌, ◌<◌, List, [], ◌∷◌, ◌++◌, Option, Some, None}
use Rattle.ink_base.specs.declared.actor.Actor.{Actor}
use Rattle.ink_base.specs.declared.actor.Actor.TheVariants as actors
use Rattle.ink_layout.specs.declared.pick.Pick.{Pick}
use Rattle.ink_layout.specs.declared.kernel_point.KernelPoint.{KernelPoint}
use Rattle.ink_layout.specs.declared.kernel_point.KernelPoint.TheVariants as points
use Rattle.never_cut.specs.Cost.{cost}
use Rattle.task_run.specs.declared.machine.TaskMachine.{TaskMachine}
use Rattle.task_run.specs.Machine.{begin}
use Rattle.task_run.specs.Remaining.{IsRemaining}
use Rattle.kernel_core.specs.declared.kernel.Kernel.{Kernel}
use Rattle.kernel_core.specs.declared.kernel.Kernel.TheVariants.{Task}
use Rattle.kernel_core.specs.Kernel.{point_found}
use Rattle.kernel_core.specs.Board.{Setup, Board, Move, Cut, Turn, finds, kernel_access, moved_by, first_board}
use Rattle.kernel_core.specs.First.{IsSetup, StandsFirst}
use Rattle.kernel_core.specs.Moves.{AreMoves, ticks, turns, IsInRange}
use Rattle.kernel_core.specs.Stands.{memory, state}

-- the turns of the kernel among these moves
abbrev pub kernel_turns : List Move → ℕ
kernel_turns [] = 0
kernel_turns (Turn actors.Kernel ∷ moves) = suc (kernel_turns moves)
kernel_turns (_ ∷ moves) = kernel_turns moves

-- no cut is among them: they are of one charge
abbrev pub HasNoCut : List Move → Type 0
HasNoCut [] = Unit {0}
HasNoCut (Cut off ∷ moves) = ⊥
HasNoCut (Turn actor ∷ moves) = HasNoCut moves

-- what the kernel's next access means to the never-cut kernel
abbrev pub next_point : Setup → Board → KernelPoint
next_point s b = point_found s.program b.kernel (finds b (kernel_access s b))

-- a scan has ended with this pick, and the kernel has made no access of its service yet
abbrev pub HasPicked : Board → Pick → Type 0
HasPicked b pick = (stamp : ℕ) × (b.kernel ≡ Task (begin pick stamp))

-- The kernel serves this pick, and so many accesses of it remain up to the commit: the next one is the commit exactly where one remains.
pub record IsServed (s : Setup) (b : Board) (pick : Pick) (rest : ℕ) : Type 0 where
  pub machine : TaskMachine
  pub serves : b.kernel ≡ Task machine
  pub pick_is : machine.pick ≡ pick
  pub remains : IsRemaining s.program (memory s b) machine rest
  pub commits : (next_point s b ≡ points.Commit pick.thread) ↔ (rest ≡ 1)

-- where a scan has ended with a pick, as many accesses remain as its service costs by the meaning of its task
abbrev pub PickCosts : Setup → Board → Type 0
PickCosts s b = (pick : Pick) → HasPicked b pick → IsServed s b pick (cost s.program (state s b) pick.thread.0)

-- Of a service an access of the kernel that isn't its last leaves one less, and one of another actor as many as before.
abbrev pub CountsDown : Setup → Board → Actor → Board → Type 0
CountsDown s b actors.Kernel next = (pick : Pick) (rest : ℕ) → IsServed s b pick rest → 1 < rest → IsServed s next pick (rest - 1)
CountsDown s b _ next = (pick : Pick) (rest : ℕ) → IsServed s b pick rest → IsServed s next pick rest

-- From this board on, in these moves: behind a pick, whatever turns of others lie between, the accesses of the kernel in the same charge count down from the
-- cost of its service, and the last of them is the commit.
abbrev pub PicksCommit : Setup → Board → List Move → Type 0
PicksCommit s first listed =
    (moves more rest : List Move) (pick : Pick) → listed ≡ moves ++ (more ++ rest) → HasNoCut more →
    let b = moved_by s first moves in
    HasPicked b pick → kernel_turns more < cost s.program (state s b) pick.thread.0 →
    IsServed s (moved_by s b more) pick (cost s.program (state s b) pick.thread.0 - kernel_turns more)

-- from any words that stand for a state at which a run can begin, and whatever order of turns and cuts is listed
abbrev pub EveryPickCommits : Type 0
EveryPickCommits =
    (s : Setup) (words : List ℕ) (charges : ℕ) (moves : List Move) → IsSetup s → StandsFirst s words → AreMoves s charges 0 moves → IsInRange s.first (ticks moves) (turns moves) →
    PicksCommit s (first_board s words charges) moves

-- what a kernel has left up to its commit: the number of its accesses where it serves a pick, and nothing where it doesn't
abbrev pub TellsRest : Setup → Board → Kernel → Option ℕ → Type 0
TellsRest s b (Task machine) rest = (n : ℕ) × (rest ≡ Some n) × IsRemaining s.program (memory s b) machine n
TellsRest s b _ rest = rest ≡ None
