-- What is left of a service at most is far below 2^32, and each access to the board leaves less.
use Rattle.task_run.proofs.Common.{◌/◌, ◌≡◌, ℕ, zero, suc, ◌<◌, ◌≤◌, length, arith, ap, inl, inr, cases_eq, cases_lt, eq-eqb, ne_eqb, bit_at, get_or_past, Program, Task, IsAccepted, thread_def, task_def, first_task, no_task_def, Pick, Buffer, Ending, Execution, Phase, WriteFirst, WriteOrigin, WriteValue, WriteTaken, ReadPeriod, WriteDue, TaskMachine, Action, Put, Get, Make, action, want, take, FitsTask, Copying, Loading, Storing, copy_access, cond, subst}
use Rattle.ink_base.specs.declared.limits.TheConstants as limits
use Rattle.task_run.specs.declared.ending.Ending.TheVariants as endings
use Rattle.task_run.specs.kept.LeftMost.{IsInPage, clean_pages, block_pages, behind_event, left_in, left_most}
use Rattle.thread_state.specs.Pages.{write_access}
use Rattle.fram_words.specs.Places.{place_of}
use Rattle.ink_layout.specs.Shape.{IsOnBoard}
use Rattle.task_run.specs.Actions as actions
use Rattle.task_run.proofs.LeftFalls.{CopiesInPage, task_lowers}
use Rattle.task_run.proofs.Accesses.{machine_at}

-- no more than all pages
pages_most : (dirty pages : ℕ) → clean_pages dirty pages ≤ pages
pages_most dirty zero = omega arith
pages_most dirty (suc n) =
    let below : clean_pages dirty n ≤ n = pages_most dirty n in
    elim (cases_eq (bit_at dirty n) 1) [ inl is ↦ rw (eq-eqb _ 1 is) (omega arith) | inr ne ↦ rw (ne_eqb _ 1 ne) (omega arith) ]

-- a task has no greater limit than a task can have
limit_most : (program : Program) (x : ℕ) → IsAccepted program → (task_def program x).limit ≤ limits.TASK_LIMIT
limit_most program x accepted =
    elim (cases_lt x (length program.tasks)) [
      | inl known ↦ (accepted.tasks x known).limit
      | inr past ↦ let none : (task_def program x).limit ≡ no_task_def.limit = ap (λ (task : Task). task.limit) (get_or_past program.tasks x no_task_def past) in omega arith
    ]

module _ (program : Program) (pick : Pick) (stamp : ℕ) (accepted : IsAccepted program) (known : pick.thread.0 < length program.threads) where
  pages_few : block_pages program pick.thread.0 ≤ 38
  pages_few = let few : (thread_def program pick.thread.0).state ≤ limits.STATE_NUMBERS = (accepted.threads pick.thread.0 known).state in omega arith

  event_few : (k : Ending) → behind_event program pick.thread.0 k ≤ 30000
  event_few endings.Done = let most = limit_most program (first_task program pick.thread.0) accepted in let few = pages_few in omega arith
  event_few (endings.Next task) = omega arith
  event_few endings.Trapped = omega arith
  event_few endings.Expired = omega arith

  phase_few : (b : Buffer) (ending : Ending) (e : Execution) (phase : Phase) → left_in program (machine_at pick stamp b ending e phase) phase ≤ 30010
  phase_few b ending e WriteFirst = let few = event_few ending in omega arith
  phase_few b ending e WriteOrigin = let few = event_few ending in omega arith
  phase_few b ending e WriteValue = let few = event_few ending in omega arith
  phase_few b ending e WriteTaken = let few = event_few ending in omega arith
  phase_few b ending e ReadPeriod = let few = event_few ending in omega arith
  phase_few b ending e (WriteDue w) = let few = event_few ending in omega arith
  phase_few b ending e phase = let most = limit_most program e.task.0 accepted in let few = pages_few in omega arith

-- the most that any service has left
pub left_few : (program : Program) (r : TaskMachine) → IsAccepted program → r.pick.thread.0 < length program.threads → left_most program r < 100000
left_few program r accepted known =
    let phase = phase_few program r.pick r.stamp accepted known r.buffer r.ending r.execution r.phase in
    let pages = pages_few program r.pick r.stamp accepted known in
    let copies : clean_pages r.buffer.dirty (block_pages program r.pick.thread.0) ≤ block_pages program r.pick.thread.0 = pages_most r.buffer.dirty (block_pages program r.pick.thread.0) in
    omega arith

-- a copying on a page of the board is at a word of its page
copy_inside : (program : Program) (t commit page : ℕ) (c : Copying) → IsOnBoard program (place_of (copy_access t commit page c)) → IsInPage c
copy_inside program t commit page (Loading k) there = there.3
copy_inside program t commit page (Storing k v) there = there.3

copies_there : (program : Program) (r : TaskMachine) (a : Action) → IsOnBoard program (place_of (actions.access_of r a)) → CopiesInPage r.buffer a
copies_there program r (Put w v) there =
    λ clean. copy_inside program r.pick.thread.0 r.buffer.commit (w / 8) r.buffer.copying (subst (λ d. IsOnBoard program (place_of (cond d (write_access r.pick.thread.0 r.buffer w v) (copy_access r.pick.thread.0 r.buffer.commit (w / 8) r.buffer.copying)))) clean there)
copies_there program r (Get w) there = tt
copies_there program r (Make access) there = tt

-- so each access to the board leaves less
pub access_lowers : (program : Program) (r : TaskMachine) (word : ℕ) → IsAccepted program → FitsTask program r → IsOnBoard program (place_of (want program r)) →
    left_most program (take program r word) < left_most program r
access_lowers program r word accepted fits there = (task_lowers program r word accepted fits (copies_there program r (action program r r.phase) there)).0
