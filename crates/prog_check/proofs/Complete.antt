-- A program that is accepted has no fault.
use Rattle.prog_check.proofs.Common.{◌≡◌, ◌≢◌, ℕ, zero, suc, ◌^◌, ◌<◌, ◌≤◌, Bool, true, false, ◌&&◌, ◌||◌, not, eqb, ltb, List, [], ◌∷◌, length, take, Option, Some, None, refl, inl, inr, arith, le-leb, lt-ltb, eq-eqb, ne_eqb, list_any, position_or_len, is_some, bytes_eq, cases_Bool, and_from, Cause, JobFault, Instr, Jmp, Jz, Jnz, Send, Arm, Stop, Next, Lines, ThreadDef, PipeDef, TimerDef, Task, Program, no_thread_def, no_pipe_def, no_timer_def, no_task_def, thread_def, pipe_def, timer_def, task_def, instr_at, IsRightThread, IsRightPipe, IsRightTimer, IsRightInstr, IsAccepted, unless, ◌or_else◌, is_between, is_time, is_thread_within, is_thread_taken, is_pipe_owned, is_timer_within, is_owned, served_fault, is_aimed, stays}
use Rattle.prog_check.specs.Faults.{first_below, thread_fault, source_fault, pipe_fault, timer_fault, instr_fault, task_fault, limit_fault, target_fault, code_fault, meaning_fault, first_fault}
use Rattle.ink_base.specs.declared.limits.TheConstants as limits
use Rattle.prog_check.proofs.Apart.{none_before, differ, fresh_before}

neither : (p q : Option JobFault) → p ≡ None → q ≡ None → (p or_else q) ≡ None
neither None q h so = so
neither (Some f) q h so = absurd (cc)

holding : (holds : Bool) (line : ℕ) (cause : Cause) → holds ≡ true → unless holds line cause ≡ None
holding true line cause h = refl
holding false line cause h = absurd (cc)

none_below : (fault : ℕ → Option JobFault) (n : ℕ) → ((k : ℕ) → k < n → fault k ≡ None) → first_below fault n ≡ None
unfolding first_below
none_below fault zero h = refl
none_below fault (suc n) h = neither (first_below fault n) (fault n) (none_below fault n (λ k lt. h k (omega arith))) (h n (omega arith))

between : (least greatest n : ℕ) → least ≤ n → n ≤ greatest → is_between least greatest n ≡ true
between least greatest n above below = and_from _ _ (le-leb least n above) (le-leb n greatest below)

is_early : (o : Option ℕ) → ((ticks : ℕ) → o ≡ Some ticks → ticks ≤ limits.TICKS) → is_time o ≡ true
is_early None h = refl
is_early (Some ticks) h = le-leb ticks limits.TICKS (h ticks refl)

thread_within : (thread : ThreadDef) → IsRightThread thread → is_thread_within thread ≡ true
thread_within thread right =
    and_from _ _ (between limits.FEWEST_QUEUE_PLACES limits.QUEUE_PLACES thread.queue right.queue_least right.queue)
    (and_from _ _ (le-leb thread.state limits.STATE_NUMBERS right.state) (and_from _ _ (between 1 limits.LOG_PLACES thread.log right.log_least right.log) (is_early thread.expires right.expires)))

unequal : (a b : ℕ) → a ≢ b → not (eqb a b) ≡ true
unequal a b h = rw (ne_eqb a b h) refl

pipe_owned : (program : Program) (pipe : PipeDef) → IsRightPipe program pipe → is_pipe_owned program pipe ≡ true
pipe_owned program pipe right = and_from _ _ (lt-ltb _ _ right.writer) (and_from _ _ (lt-ltb _ _ right.reader) (unequal _ _ right.other))

is_off : (o : Option ℕ) (period : ℕ) → (o ≡ None → period ≡ 0) → (is_some o || eqb period 0) ≡ true
is_off None period h = eq-eqb period 0 (h refl)
is_off (Some due) period h = refl

timer_within : (program : Program) (timer : TimerDef) → IsRightTimer program timer → is_timer_within timer ≡ true
timer_within program timer right = and_from _ _ (is_early timer.due right.due) (and_from _ _ (le-leb _ _ right.period) (is_off timer.due timer.period right.off))

both : (i count a b : ℕ) → (i < count) × (a ≡ b) → (ltb i count && eqb a b) ≡ true
both i count a b h = and_from _ _ (lt-ltb i count h.0) (eq-eqb a b h.1)

passes : (program : Program) (task : Task) (instr : Instr) → IsRightInstr program task instr → (is_owned program task instr ≡ true) × (is_aimed task instr ≡ true) × (stays program task instr ≡ true)
passes program task (Jmp i) right = (refl, lt-ltb _ _ right, refl)
passes program task (Jz a i) right = (refl, lt-ltb _ _ right, refl)
passes program task (Jnz a i) right = (refl, lt-ltb _ _ right, refl)
passes program task (Send i a b) right = (both _ _ _ _ right, refl, refl)
passes program task (Arm i a b) right = (both _ _ _ _ right, refl, refl)
passes program task (Stop i) right = (both _ _ _ _ right, refl, refl)
passes program task (Next i) right = (lt-ltb _ _ right.0, refl, both _ _ _ _ right)
passes program task _ right = (refl, refl, refl)

one_of_place : (test : Task → Bool) (tasks : List Task) → position_or_len test tasks < length tasks → list_any test tasks ≡ true
one_of_place test [] lt = absurd (omega arith)
one_of_place test (task ∷ tasks) lt =
    elim (cases_Bool (test task)) [
      | inl passing ↦ rw passing refl
      | inr failing ↦ let behind = rw failing at lt in rw failing (one_of_place test tasks (omega (arith, behind)))
    ]

-- each part of an accepted program is without a fault
module _ (program : Program) (lines : Lines) (is : IsAccepted program) where
  thread_free : (t : ℕ) → t < length program.threads → is_thread_taken (take t program.threads) (thread_def program t) ≡ false
  thread_free t lt =
      none_before (λ (other : ThreadDef). bytes_eq other.name (thread_def program t).name || eqb other.priority (thread_def program t).priority) program.threads no_thread_def t lt
      (λ k below. rw (differ _ _ (is.distinct.threads k t below lt), ne_eqb _ _ (is.distinct.priorities k t below lt)) refl)

  thread_passes : (t : ℕ) → t < length program.threads → thread_fault program lines t ≡ None
  unfolding thread_fault
  thread_passes t lt = neither _ _ (holding _ _ _ (thread_within (thread_def program t) (is.threads t lt))) (holding _ _ _ (rw (thread_free t lt) refl))

  source_passes : (i : ℕ) → i < length program.sources → source_fault program lines i ≡ None
  unfolding source_fault
  source_passes i lt = holding _ _ _ (lt-ltb _ _ (is.sources i lt))

  pipe_passes : (q : ℕ) → q < length program.pipes → pipe_fault program lines q ≡ None
  unfolding pipe_fault
  pipe_passes q lt =
      let right = is.pipes q lt in
      neither _ _ (holding _ _ _ (between 1 limits.PIPE_PLACES (pipe_def program q).places right.places_least right.places))
      (neither _ _ (holding _ _ _ (rw (fresh_before (λ (other : PipeDef). other.name) program.pipes no_pipe_def q lt is.distinct.pipes) refl))
      (holding _ _ _ (pipe_owned program (pipe_def program q) right)))

  timer_passes : (j : ℕ) → j < length program.timers → timer_fault program lines j ≡ None
  unfolding timer_fault
  timer_passes j lt =
      let right = is.timers j lt in
      neither _ _ (holding _ _ _ (timer_within program (timer_def program j) right))
      (neither _ _ (holding _ _ _ (rw (fresh_before (λ (other : TimerDef). other.name) program.timers no_timer_def j lt is.distinct.timers) refl))
      (holding _ _ _ (lt-ltb _ _ right.thread)))

  instr_passes : (x n : ℕ) → x < length program.tasks → n < length (task_def program x).code → instr_fault program lines x n ≡ None
  unfolding instr_fault
  instr_passes x n lt less = holding _ _ _ (passes program (task_def program x) (instr_at (task_def program x) n) ((is.tasks x lt).instrs n less)).0

  task_passes : (x : ℕ) → x < length program.tasks → task_fault program lines x ≡ None
  unfolding task_fault
  task_passes x lt =
      let right = is.tasks x lt in
      neither _ _ (holding _ _ _ (between 1 limits.TASK_LIMIT (task_def program x).limit right.limit_least right.limit))
      (neither _ _ (holding _ _ _ (rw (fresh_before (λ (other : Task). other.name) program.tasks no_task_def x lt is.distinct.tasks) refl))
      (neither _ _ (holding _ _ _ (lt-ltb _ _ right.thread))
      (none_below (instr_fault program lines x) (length (task_def program x).code) (λ n less. instr_passes x n lt less))))

  served_passes : (t : ℕ) → t < length program.threads → served_fault program lines t ≡ None
  served_passes t lt = holding _ _ _ (one_of_place (λ (task : Task). eqb task.thread.0 t) program.tasks (is.served t lt))

  target_passes : (x n : ℕ) → x < length program.tasks → n < length (task_def program x).code → target_fault program lines x n ≡ None
  unfolding target_fault
  target_passes x n lt less =
      let p = passes program (task_def program x) (instr_at (task_def program x) n) ((is.tasks x lt).instrs n less) in
      neither _ _ (holding _ _ _ p.1) (holding _ _ _ p.2)

  code_passes : (x : ℕ) → x < length program.tasks → code_fault program lines x ≡ None
  unfolding code_fault
  code_passes x lt =
      let right = is.tasks x lt in
      neither _ _ (none_below (target_fault program lines x) (length (task_def program x).code) (λ n less. target_passes x n lt less))
      (holding _ _ _ (and_from _ _ (lt-ltb 0 (length (task_def program x).code) right.code) right.ends))

  pub no_fault : first_fault program lines ≡ None
  unfolding first_fault limit_fault meaning_fault
  no_fault =
      neither _ _
      (neither _ _ (neither _ _ (holding _ _ _ (le-leb _ _ is.counts.threads)) (none_below _ _ thread_passes))
      (neither _ _ (neither _ _ (holding _ _ _ (le-leb _ _ is.counts.sources)) (none_below _ _ source_passes))
      (neither _ _ (neither _ _ (holding _ _ _ (le-leb _ _ is.counts.pipes)) (none_below _ _ pipe_passes))
      (neither _ _ (neither _ _ (holding _ _ _ (le-leb _ _ is.counts.timers)) (none_below _ _ timer_passes))
      (neither _ _ (holding _ _ _ (le-leb _ _ is.counts.tasks))
      (neither _ _ (holding _ _ _ (le-leb _ _ is.counts.code)) (none_below _ _ task_passes)))))))
      (neither _ _ (holding _ _ _ (lt-ltb _ _ is.counts.threads_least))
      (neither _ _ (none_below _ _ served_passes) (none_below _ _ code_passes)))
