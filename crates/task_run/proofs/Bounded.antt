-- How many accesses the service of a pick takes at most.
use Rattle.task_run.proofs.Common.{◌≡◌, ℕ, ◌<◌, ◌≤◌, false, List, [], ◌∷◌, length, Option, Some, None, arith, refl, TaskId, Program, IsAccepted, ForSome, task_def, first_task, Pick, no_writes, TaskMachine, take, begin, is_over, first_phase, running_task, execution_of, IsServiceOf}
use Rattle.never_cut.specs.Bounds.{task_bound}
use Rattle.never_cut.specs.Ranges.{IsTaskOf}
use Rattle.task_run.specs.declared.ending.Ending.TheVariants as endings
use Rattle.task_run.specs.Bounded.{AreServed, task_by, task_of, EveryServiceEnds}
use Rattle.task_run.specs.kept.LeftMost.{IsInPage, clean_pages, block_pages, left_most}
use Rattle.task_run.proofs.Accesses.{machine_at}
use Rattle.task_run.proofs.Acts.{first_own}
use Rattle.task_run.proofs.Alone.{service_begins, service_goes}
use Rattle.task_run.proofs.CleanPages.{clean-none}
use Rattle.task_run.proofs.LeftFalls.{left_falls}

module _ (program : Program) (pick : Pick) (stamp : ℕ) (accepted : IsAccepted program) (thread : pick.thread.0 < length program.threads)
    (own : ForSome pick.running (λ task. IsTaskOf program pick.thread.0 task.0)) where
  -- a task of the pick's thread has the pages of that thread
  begins_by : (running : Option TaskId) → pick.running ≡ running →
      left_most program (machine_at pick stamp (no_writes pick.commit_word) endings.Done (execution_of (running_task running)) (first_phase running))
      ≤ task_bound program (task_def program (task_by program pick.thread.0 running))
  begins_by None is =
      let x : ℕ = first_task program pick.thread.0 in
      let known = accepted.served pick.thread.0 thread in
      let some = (accepted.tasks x known).limit_least in
      let none : clean_pages 0 (block_pages program pick.thread.0) ≡ block_pages program pick.thread.0 = clean-none _ in
      rw (first_own program pick.thread.0 known) (omega arith)
  begins_by (Some task) is =
      let of : IsTaskOf program pick.thread.0 task.0 = own task is in
      let some = (accepted.tasks task.0 of.0).limit_least in
      let none : clean_pages 0 (block_pages program pick.thread.0) ≡ block_pages program pick.thread.0 = clean-none _ in
      rw of.1 (omega arith)

-- a pick that is begun has no more left than its task's bound
pub left_begins : (program : Program) (pick : Pick) (stamp : ℕ) → IsAccepted program → pick.thread.0 < length program.threads →
    ForSome pick.running (λ task. IsTaskOf program pick.thread.0 task.0) → left_most program (begin pick stamp) ≤ task_bound program (task_def program (task_of program pick))
left_begins program pick stamp accepted thread own = begins_by program pick stamp accepted thread own pick.running refl

-- registers of a service have as much left as they make accesses, or more
served_within : (program : Program) (words : List ℕ) (r : TaskMachine) → IsAccepted program → (is_over r.phase ≡ false → IsServiceOf program r) →
    IsInPage r.buffer.copying → AreServed program r words → length words ≤ left_most program r
served_within program [] r accepted reached inside served = omega arith
served_within program (word ∷ words) r accepted reached inside served =
    let service = reached served.0 in
    let falls = left_falls program r word accepted service.fits inside in
    let rest : length words ≤ left_most program (take program r word) =
    served_within program words (take program r word) accepted (λ live. service_goes program r (take program r word) word accepted service served.1 refl live) falls.1 served.2
    in omega arith

pub every_service_ends : EveryServiceEnds
every_service_ends program pick stamp words accepted own low served =
    let most = left_begins program pick stamp accepted own.known own.task in
    let within = served_within program words (begin pick stamp) accepted (λ live. service_begins program pick stamp accepted own low) (omega arith) served in
    omega arith
