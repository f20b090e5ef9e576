-- Where the instructions of an accepted program lead.
use Rattle.task_run.proofs.Common.{◌≡◌, ℕ, ◌+◌, ◌-◌, ◌<◌, true, false, length, arith, refl, ◌∙◌, sym, inl, inr, subst, ◌==◌, Option, Some, None, eqb-true, false≢true, cases_Bool, cases_eq, passes_at_first, TaskId, Instr, Li, Mov, Add, Sub, Mul, And, Or, Xor, Shl, Shr, Divu, Remu, Ltu, Eq, Jmp, Jz, Jnz, Ev, Kind, Num, Now, Ld, St, Out, Send, Arm, Stop, Next, Done, Act, Sets, Goes, Loads, Saves, Puts, Sends, Arms, Stops, Continues, Ends, Traps, Program, Task, Given, Cpu, reg, pipe_def, timer_def, task_def, no_task_def, instr_at, first_task, IsAccepted, IsRightInstr, IsRightTask, ends_code, Model, thread_of, task_at, Readings, IsSound}
use Rattle.task_isa.specs.Acts.{act_of}

-- what an act leads to is inside of the code, and what it names is of the task's thread
abbrev pub Lands : Program → (t len at : ℕ) → Act → Type 0
Lands program t len at (Sets a v) = at + 1 < len
Lands program t len at (Goes offset) = offset < len
Lands program t len at (Loads a n) = at + 1 < len
Lands program t len at (Saves n v) = at + 1 < len
Lands program t len at (Puts v) = at + 1 < len
Lands program t len at (Sends pipe a v) = (at + 1 < len) × (pipe < length program.pipes) × ((pipe_def program pipe).writer.0 ≡ t)
Lands program t len at (Arms timer delay period) = (at + 1 < len) × (timer < length program.timers) × ((timer_def program timer).thread.0 ≡ t)
Lands program t len at (Stops timer) = (at + 1 < len) × (timer < length program.timers) × ((timer_def program timer).thread.0 ≡ t)
Lands program t len at (Continues task) = (task < length program.tasks) × ((task_def program task).thread.0 ≡ t)
Lands program t len at Ends = Unit {0}
Lands program t len at (Traps code) = Unit {0}

lands : (program : Program) (task : Task) (given : Given) (cpu : Cpu) (i : Instr) → IsRightInstr program task i →
    (ends_code i ≡ false → cpu.at + 1 < length task.code) → Lands program task.thread.0 (length task.code) cpu.at (act_of i given cpu)
unfolding act_of
lands program task given cpu (Li a i) right next = next refl
lands program task given cpu (Mov a b) right next = next refl
lands program task given cpu (Add a b c) right next = next refl
lands program task given cpu (Sub a b c) right next = next refl
lands program task given cpu (Mul a b c) right next = next refl
lands program task given cpu (And a b c) right next = next refl
lands program task given cpu (Or a b c) right next = next refl
lands program task given cpu (Xor a b c) right next = next refl
lands program task given cpu (Shl a b c) right next = next refl
lands program task given cpu (Shr a b c) right next = next refl
lands program task given cpu (Divu a b c) right next = elim (cases_Bool (reg cpu c == 0)) [ inl t ↦ rw t tt | inr f ↦ rw f (next refl) ]
lands program task given cpu (Remu a b c) right next = elim (cases_Bool (reg cpu c == 0)) [ inl t ↦ rw t tt | inr f ↦ rw f (next refl) ]
lands program task given cpu (Ltu a b c) right next = next refl
lands program task given cpu (Eq a b c) right next = next refl
lands program task given cpu (Jmp i) right next = right
lands program task given cpu (Jz a i) right next = elim (cases_Bool (reg cpu a == 0)) [ inl t ↦ rw t right | inr f ↦ rw f (next refl) ]
lands program task given cpu (Jnz a i) right next = elim (cases_Bool (reg cpu a == 0)) [ inl t ↦ rw t (next refl) | inr f ↦ rw f right ]
lands program task given cpu (Ev a) right next = next refl
lands program task given cpu (Kind a) right next = next refl
lands program task given cpu (Num a) right next = next refl
lands program task given cpu (Now a) right next = next refl
lands program task given cpu (Ld a b) right next = next refl
lands program task given cpu (St a b) right next = next refl
lands program task given cpu (Out a) right next = next refl
lands program task given cpu (Send i a b) right next = (next refl, right.0, right.1)
lands program task given cpu (Arm i a b) right next = (next refl, right.0, right.1)
lands program task given cpu (Stop i) right next = (next refl, right.0, right.1)
lands program task given cpu (Next i) right next = right
lands program task given cpu Done right next = tt

-- an instruction that goes on isn't the last one
not_last : (program : Program) (task : Task) (at : ℕ) → IsRightTask program task → at < length task.code → ends_code (instr_at task at) ≡ false →
    at + 1 < length task.code
not_last program task at right inside goes =
    elim (cases_eq (at + 1) (length task.code)) [
      | inl e ↦
          let last : at ≡ length task.code - 1 = omega arith in
          let ends : ends_code (instr_at task at) ≡ true = subst (λ n. ends_code (instr_at task n) ≡ true) (sym last) right.ends in
          absurd (false≢true (sym goes ∙ ends))
      | inr ne ↦ omega arith
    ]

pub task_lands : (program : Program) (x at : ℕ) (given : Given) (cpu : Cpu) → IsAccepted program → x < length program.tasks →
    cpu.at ≡ at → at < length (task_def program x).code →
    Lands program (task_def program x).thread.0 (length (task_def program x).code) cpu.at (act_of (instr_at (task_def program x) at) given cpu)
task_lands program x at given cpu accepted known same inside =
    let right = accepted.tasks x known in
    lands program (task_def program x) given cpu (instr_at (task_def program x) at) (right.instrs at inside)
    (λ goes. rw same (not_last program (task_def program x) at right inside goes))

-- the first task of a thread is one of its own
pub first_own : (program : Program) (t : ℕ) → first_task program t < length program.tasks → (task_def program (first_task program t)).thread.0 ≡ t
first_own program t known = eqb-true _ _ (passes_at_first (λ (task : Task). task.thread.0 == t) program.tasks no_task_def known)

-- the task that a commit runs is one of the program, and of the thread
pub record IsOwnTask (program : Program) (t task : ℕ) : Type 0 where
  pub known : task < length program.tasks
  pub own : (task_def program task).thread.0 ≡ t

pub own_task : (program : Program) (readings : Readings) (m : Model) (t : ℕ) → IsAccepted program → IsSound program readings m → t < length program.threads →
    IsOwnTask program t (task_at program m t)
own_task program readings m t accepted sound known = by_running (thread_of m t).running refl
  where
    by_running : (running : Option TaskId) → (thread_of m t).running ≡ running →
        IsOwnTask program t (elim running [ Some task ↦ task.0 | None ↦ first_task program t ])
    by_running (Some task) is = let chain = (sound.threads t known).chain task is in record { known = chain.known; own = chain.own }
    by_running None is = record { known = accepted.served t known; own = first_own program t (accepted.served t known) }
