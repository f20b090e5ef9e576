-- What the tests of one declaration say where they give no fault.
use Rattle.prog_check.proofs.Common.{◌≡◌, ◌≢◌, ℕ, ◌-◌, ◌^◌, ◌<◌, ◌≤◌, Bool, true, false, ◌&&◌, ◌||◌, not, eqb, ltb, List, [], ◌∷◌, length, get_or, take, Option, Some, None, sym, ap, ◌∙◌, inl, inr, arith, leb-true, ltb-true, eqb-true, eq-eqb, get_or-take, length-take, list_any, position_or_len, bytes_eq, cases_Bool, and_parts, not-true, false≢true, is_some, list_any_at, bytes_eq-Decides, Instr, Jmp, Jz, Jnz, Send, Arm, Stop, Next, ThreadDef, PipeDef, TimerDef, Task, Program, instr_at, first_task, IsRightThread, IsRightPipe, IsRightTimer, IsRightInstr, ends_code, is_between, is_time, is_thread_within, has_thread, is_pipe_owned, is_timer_within, is_owned, has_task, is_aimed, stays, has_end}
use Rattle.ink_base.specs.declared.limits.TheConstants as limits

pub between : (least greatest n : ℕ) → is_between least greatest n ≡ true → (least ≤ n) × (n ≤ greatest)
between least greatest n h = let p = and_parts _ _ h in (leb-true _ _ p.0, leb-true _ _ p.1)

time_below : (o : Option ℕ) → is_time o ≡ true → (ticks : ℕ) → o ≡ Some ticks → ticks ≤ limits.TICKS
time_below None h ticks e = absurd (cc)
time_below (Some t) h ticks e = let same : t ≡ ticks = cc in let le = leb-true t limits.TICKS h in omega (arith, le, same)

pub thread_within : (thread : ThreadDef) → is_thread_within thread ≡ true → thread.priority ≤ limits.PRIORITY → IsRightThread thread
thread_within thread h priority =
    let p = and_parts _ _ h in
    let queue = between _ _ _ p.0 in
    let q = and_parts _ _ p.1 in
    let r = and_parts _ _ q.1 in
    let log = between _ _ _ r.0 in
    record {
      priority = priority;
      queue_least = queue.0;
      queue = queue.1;
      state = leb-true _ _ q.0;
      log_least = log.0;
      log = log.1;
      expires = time_below thread.expires r.1;
    }

unequal : (a b : ℕ) → not (eqb a b) ≡ true → a ≢ b
unequal a b h e = absurd (false≢true (sym (not-true _ h) ∙ eq-eqb a b e))

pub pipe_right : (program : Program) (pipe : PipeDef) → is_between 1 limits.PIPE_PLACES pipe.places ≡ true → is_pipe_owned program pipe ≡ true → IsRightPipe program pipe
pipe_right program pipe places owned =
    let p = between _ _ _ places in
    let q = and_parts _ _ owned in
    let r = and_parts _ _ q.1 in
    record {
      places_least = p.0;
      places = p.1;
      writer = ltb-true _ _ q.0;
      reader = ltb-true _ _ r.0;
      other = unequal _ _ r.1;
    }

off : (o : Option ℕ) (period : ℕ) → (is_some o || eqb period 0) ≡ true → o ≡ None → period ≡ 0
off None period h e = eqb-true _ _ h
off (Some t) period h e = absurd (cc)

pub timer_right : (program : Program) (timer : TimerDef) → is_timer_within timer ≡ true → has_thread program timer.thread.0 ≡ true → IsRightTimer program timer
timer_right program timer h owned =
    let p = and_parts _ _ h in
    let q = and_parts _ _ p.1 in
    record {
      thread = ltb-true _ _ owned;
      due = time_below timer.due p.0;
      period = leb-true _ _ q.0;
      off = off timer.due timer.period q.1;
    }

both : (i count a b : ℕ) → (ltb i count && eqb a b) ≡ true → (i < count) × (a ≡ b)
both i count a b h = let p = and_parts _ _ h in (ltb-true _ _ p.0, eqb-true _ _ p.1)

pub instr_right : (program : Program) (task : Task) (instr : Instr) → is_owned program task instr ≡ true → is_aimed task instr ≡ true → stays program task instr ≡ true → IsRightInstr program task instr
instr_right program task (Jmp i) owned aimed stay = ltb-true _ _ aimed
instr_right program task (Jz a i) owned aimed stay = ltb-true _ _ aimed
instr_right program task (Jnz a i) owned aimed stay = ltb-true _ _ aimed
instr_right program task (Send i a b) owned aimed stay = both _ _ _ _ owned
instr_right program task (Arm i a b) owned aimed stay = both _ _ _ _ owned
instr_right program task (Stop i) owned aimed stay = both _ _ _ _ owned
instr_right program task (Next i) owned aimed stay = both _ _ _ _ stay
instr_right program task _ owned aimed stay = tt

pub task_ends : (task : Task) → has_end task ≡ true → (0 < length task.code) × (ends_code (instr_at task (length task.code - 1)) ≡ true)
task_ends task h = let p = and_parts _ _ h in (ltb-true _ _ p.0, p.1)

place_of_one : (test : Task → Bool) (tasks : List Task) → list_any test tasks ≡ true → position_or_len test tasks < length tasks
place_of_one test [] h = absurd (false≢true h)
place_of_one test (task ∷ tasks) h =
    elim (cases_Bool (test task)) [
      | inl passes ↦ rw passes (omega arith)
      | inr fails ↦ let behind = rw fails at h in rw fails (omega (arith, place_of_one test tasks behind))
    ]

pub task_found : (program : Program) (t : ℕ) → has_task program.tasks t ≡ true → first_task program t < length program.tasks
task_found program t h = place_of_one (λ (task : Task). eqb task.thread.0 t) program.tasks h
