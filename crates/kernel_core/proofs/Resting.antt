-- A core's kernel that serves a pick can make each access up to its commit.
use Rattle.kernel_core.proofs.Common.{◌≡◌, ℕ, ◌+◌, List, length, subst, arith, Layout, Pusher, JobParts, lasts_less, TaskMachine, Task, Recorded, Setup, Board, memory, state, KernelHolds, setup_of, IsCore, turns_from}
use Rattle.task_run.specs.Remaining.{GoesOnAlone}
use Rattle.task_run.proofs.Remains.{every_service_goes_on}
use Rattle.kernel_core.proofs.Turns.{background_of}

pub service_goes_on : (job : JobParts) (l : Layout) (b : Board) (room : ℕ) (ps : List Pusher) (records : List Recorded) → IsCore job l b room ps records → (machine : TaskMachine) →
    b.kernel ≡ Task machine → GoesOnAlone job.program (memory (setup_of job) b) machine
service_goes_on job l b room ps records h machine is =
    let s : Setup = setup_of job in
    let knows = subst (λ k. KernelHolds job.program (memory (setup_of job) b) (state (setup_of job) b) k) is h.holds.registers in
    every_service_goes_on job.program job.readings (memory (setup_of job) b) (state (setup_of job) b) machine
    (background_of (setup_of job) (length job.charges) b h.is_setup h.holds) (lasts_less (room + turns_from job b.begun) 0 (state (setup_of job) b) (omega arith) h.range.counts) knows.0
