-- A program without a fault is one that is accepted.
use Rattle.prog_check.proofs.Common.{◌≤◌, ◌≡◌, ◌≢◌, ℕ, ◌<◌, true, false, ◌||◌, eqb, length, take, None, sym, ◌∙◌, leb-true, ltb-true, eq-eqb, bytes_eq, or_parts, not-true, false≢true, Lines, ThreadDef, PipeDef, TimerDef, Task, Program, no_thread_def, no_pipe_def, no_timer_def, no_task_def, thread_def, source_thread, pipe_def, timer_def, task_def, instr_at, HasCounts, HasDistinct, HasFittingCode, IsRightTask, IsAccepted, is_between, is_thread_within, is_thread_taken, has_thread, is_pipe_taken, is_pipe_owned, is_timer_within, is_timer_taken, is_owned, is_task_taken, has_task, served_fault, is_aimed, stays, has_end}
use Rattle.prog_check.specs.Faults.{thread_fault, source_fault, pipe_fault, timer_fault, instr_fault, task_fault, limit_fault, target_fault, code_fault, meaning_fault, first_fault}
use Rattle.ink_base.specs.declared.limits.TheConstants as limits
use Rattle.prog_check.proofs.Below.{or_else_none, unless_none, each_none}
use Rattle.prog_check.proofs.Passed.{between, thread_within, pipe_right, timer_right, instr_right, task_ends, task_found}
use Rattle.prog_check.proofs.Apart.{untaken, names_differ}

-- the conditions that a declaration meets where it has no fault
pub record ThreadMeets (program : Program) (t : ℕ) : Type 0 where
  pub within : is_thread_within (thread_def program t) ≡ true
  pub taken : is_thread_taken (take t program.threads) (thread_def program t) ≡ false

pub record PipeMeets (program : Program) (q : ℕ) : Type 0 where
  pub within : is_between 1 limits.PIPE_PLACES (pipe_def program q).places ≡ true
  pub taken : is_pipe_taken (take q program.pipes) (pipe_def program q) ≡ false
  pub owned : is_pipe_owned program (pipe_def program q) ≡ true

pub record TimerMeets (program : Program) (j : ℕ) : Type 0 where
  pub within : is_timer_within (timer_def program j) ≡ true
  pub taken : is_timer_taken (take j program.timers) (timer_def program j) ≡ false
  pub owned : has_thread program (timer_def program j).thread.0 ≡ true

pub record TaskMeets (program : Program) (x : ℕ) : Type 0 where
  pub within : is_between 1 limits.TASK_LIMIT (task_def program x).limit ≡ true
  pub taken : is_task_taken (take x program.tasks) (task_def program x) ≡ false
  pub thread : has_thread program (task_def program x).thread.0 ≡ true
  pub owned : (n : ℕ) → n < length (task_def program x).code → is_owned program (task_def program x) (instr_at (task_def program x) n) ≡ true

pub record CodeMeets (program : Program) (x : ℕ) : Type 0 where
  pub aimed : (n : ℕ) → n < length (task_def program x).code → is_aimed (task_def program x) (instr_at (task_def program x) n) ≡ true
  pub stay : (n : ℕ) → n < length (task_def program x).code → stays program (task_def program x) (instr_at (task_def program x) n) ≡ true
  pub ends : has_end (task_def program x) ≡ true

thread_meets : (program : Program) (lines : Lines) (t : ℕ) → thread_fault program lines t ≡ None → ThreadMeets program t
unfolding thread_fault
thread_meets program lines t h = let p = or_else_none _ _ h in record {
  within = unless_none _ _ _ p.0;
  taken = not-true _ (unless_none _ _ _ p.1);
}

source_meets : (program : Program) (lines : Lines) (i : ℕ) → source_fault program lines i ≡ None → source_thread program i < length program.threads
unfolding source_fault
source_meets program lines i h = ltb-true _ _ (unless_none _ _ _ h)

pipe_meets : (program : Program) (lines : Lines) (q : ℕ) → pipe_fault program lines q ≡ None → PipeMeets program q
unfolding pipe_fault
pipe_meets program lines q h = let p = or_else_none _ _ h in let r = or_else_none _ _ p.1 in record {
  within = unless_none _ _ _ p.0;
  taken = not-true _ (unless_none _ _ _ r.0);
  owned = unless_none _ _ _ r.1;
}

timer_meets : (program : Program) (lines : Lines) (j : ℕ) → timer_fault program lines j ≡ None → TimerMeets program j
unfolding timer_fault
timer_meets program lines j h = let p = or_else_none _ _ h in let r = or_else_none _ _ p.1 in record {
  within = unless_none _ _ _ p.0;
  taken = not-true _ (unless_none _ _ _ r.0);
  owned = unless_none _ _ _ r.1;
}

instr_meets : (program : Program) (lines : Lines) (x n : ℕ) → instr_fault program lines x n ≡ None → is_owned program (task_def program x) (instr_at (task_def program x) n) ≡ true
unfolding instr_fault
instr_meets program lines x n h = unless_none _ _ _ h

task_meets : (program : Program) (lines : Lines) (x : ℕ) → task_fault program lines x ≡ None → TaskMeets program x
unfolding task_fault
task_meets program lines x h =
    let p = or_else_none _ _ h in
    let q = or_else_none _ _ p.1 in
    let r = or_else_none _ _ q.1 in
    record {
      within = unless_none _ _ _ p.0;
      taken = not-true _ (unless_none _ _ _ q.0);
      thread = unless_none _ _ _ r.0;
      owned = λ n lt. instr_meets program lines x n (each_none (instr_fault program lines x) _ r.1 n lt);
    }

target_meets : (program : Program) (lines : Lines) (x n : ℕ) → target_fault program lines x n ≡ None
    → (is_aimed (task_def program x) (instr_at (task_def program x) n) ≡ true) × (stays program (task_def program x) (instr_at (task_def program x) n) ≡ true)
unfolding target_fault
target_meets program lines x n h = let p = or_else_none _ _ h in (unless_none _ _ _ p.0, unless_none _ _ _ p.1)

code_meets : (program : Program) (lines : Lines) (x : ℕ) → code_fault program lines x ≡ None → CodeMeets program x
unfolding code_fault
code_meets program lines x h = let p = or_else_none _ _ h in record {
  aimed = λ n lt. (target_meets program lines x n (each_none (target_fault program lines x) _ p.0 n lt)).0;
  stay = λ n lt. (target_meets program lines x n (each_none (target_fault program lines x) _ p.0 n lt)).1;
  ends = unless_none _ _ _ p.1;
}

task_right : (program : Program) (x : ℕ) → TaskMeets program x → CodeMeets program x → HasFittingCode (task_def program x) → IsRightTask program (task_def program x)
task_right program x meets code fits =
    let limit = between _ _ _ meets.within in
    let ends = task_ends (task_def program x) code.ends in
    record {
      thread = ltb-true _ _ meets.thread;
      limit_least = limit.0;
      limit = limit.1;
      code = ends.0;
      ends = ends.1;
      instrs = λ n lt. instr_right program (task_def program x) (instr_at (task_def program x) n) (meets.owned n lt) (code.aimed n lt) (code.stay n lt);
      fits = fits;
    }

-- what the whole judgement says where it gives no fault
pub record Meets (program : Program) : Type 0 where
  pub counts : HasCounts program
  pub threads : (t : ℕ) → t < length program.threads → ThreadMeets program t
  pub sources : (i : ℕ) → i < length program.sources → source_thread program i < length program.threads
  pub pipes : (q : ℕ) → q < length program.pipes → PipeMeets program q
  pub timers : (j : ℕ) → j < length program.timers → TimerMeets program j
  pub tasks : (x : ℕ) → x < length program.tasks → TaskMeets program x
  pub served : (t : ℕ) → t < length program.threads → has_task program.tasks t ≡ true
  pub code : (x : ℕ) → x < length program.tasks → CodeMeets program x

pub meets_of : (program : Program) (lines : Lines) → first_fault program lines ≡ None → Meets program
unfolding first_fault limit_fault meaning_fault
meets_of program lines h =
    let steps = or_else_none _ _ h in
    let a = or_else_none _ _ steps.0 in
    let threads = or_else_none _ _ a.0 in
    let b = or_else_none _ _ a.1 in
    let sources = or_else_none _ _ b.0 in
    let c = or_else_none _ _ b.1 in
    let pipes = or_else_none _ _ c.0 in
    let d = or_else_none _ _ c.1 in
    let timers = or_else_none _ _ d.0 in
    let tasks = or_else_none _ _ d.1 in
    let code = or_else_none _ _ tasks.1 in
    let some = or_else_none _ _ steps.1 in
    let meaning = or_else_none _ _ some.1 in
    record {
      counts = record {
        threads_least = ltb-true _ _ (unless_none _ _ _ some.0);
        threads = leb-true _ _ (unless_none _ _ _ threads.0);
        sources = leb-true _ _ (unless_none _ _ _ sources.0);
        pipes = leb-true _ _ (unless_none _ _ _ pipes.0);
        timers = leb-true _ _ (unless_none _ _ _ timers.0);
        tasks = leb-true _ _ (unless_none _ _ _ tasks.0);
        code = leb-true _ _ (unless_none _ _ _ code.0);
      };
      threads = λ t lt. thread_meets program lines t (each_none (thread_fault program lines) _ threads.1 t lt);
      sources = λ i lt. source_meets program lines i (each_none (source_fault program lines) _ sources.1 i lt);
      pipes = λ q lt. pipe_meets program lines q (each_none (pipe_fault program lines) _ pipes.1 q lt);
      timers = λ j lt. timer_meets program lines j (each_none (timer_fault program lines) _ timers.1 j lt);
      tasks = λ x lt. task_meets program lines x (each_none (task_fault program lines) _ code.1 x lt);
      served = λ t lt. unless_none _ _ _ (each_none (served_fault program lines) _ meaning.0 t lt);
      code = λ x lt. code_meets program lines x (each_none (code_fault program lines) _ meaning.1 x lt);
    }

-- the name and the priority of an earlier thread are others
thread_apart : (program : Program) (i k : ℕ) → i < k → k < length program.threads → ThreadMeets program k
    → ((thread_def program i).name ≢ (thread_def program k).name) × ((thread_def program i).priority ≢ (thread_def program k).priority)
thread_apart program i k below within meets =
    let test = λ (other : ThreadDef). bytes_eq other.name (thread_def program k).name || eqb other.priority (thread_def program k).priority in
    let p = or_parts _ _ (untaken test program.threads i k no_thread_def below within meets.taken) in
    (names_differ _ _ p.0, λ e. absurd (false≢true (sym p.1 ∙ eq-eqb _ _ e)))

pub distinct_of : (program : Program) → Meets program → HasDistinct program
distinct_of program m = record {
  priorities = λ i k below within. (thread_apart program i k below within (m.threads k within)).1;
  threads = λ i k below within. (thread_apart program i k below within (m.threads k within)).0;
  pipes = λ i k below within. names_differ _ _ (untaken (λ (other : PipeDef). bytes_eq other.name (pipe_def program k).name) program.pipes i k no_pipe_def below within (m.pipes k within).taken);
  timers = λ i k below within. names_differ _ _ (untaken (λ (other : TimerDef). bytes_eq other.name (timer_def program k).name) program.timers i k no_timer_def below within (m.timers k within).taken);
  tasks = λ i k below within. names_differ _ _ (untaken (λ (other : Task). bytes_eq other.name (task_def program k).name) program.tasks i k no_task_def below within (m.tasks k within).taken);
}

-- a program without a fault, whose priorities are bytes and whose operands fit their bits, is accepted
pub accepted_of : (program : Program) (lines : Lines) → first_fault program lines ≡ None
    → ((t : ℕ) → t < length program.threads → (thread_def program t).priority ≤ limits.PRIORITY)
    → ((x : ℕ) → x < length program.tasks → HasFittingCode (task_def program x)) → IsAccepted program
accepted_of program lines h priorities fits =
    let m = meets_of program lines h in
    record {
      counts = m.counts;
      distinct = distinct_of program m;
      threads = λ t lt. thread_within (thread_def program t) (m.threads t lt).within (priorities t lt);
      sources = m.sources;
      pipes = λ q lt. pipe_right program (pipe_def program q) (m.pipes q lt).within (m.pipes q lt).owned;
      timers = λ j lt. timer_right program (timer_def program j) (m.timers j lt).within (m.timers j lt).owned;
      tasks = λ x lt. task_right program x (m.tasks x lt) (m.code x lt) (fits x lt);
      served = λ t lt. task_found program t (m.served t lt);
    }
