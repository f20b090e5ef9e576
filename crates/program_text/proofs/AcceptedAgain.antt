-- The canonical text of an accepted program can be read.
use Rattle.program_text.proofs.Common.{◌≡◌, ℕ, zero, suc, ◌+◌, ◌<◌, ◌≤◌, ◌^◌, true, eqb, List, [], ◌∷◌, length, take, get_or, refl, ◌∙◌, arith, ne_eqb, length-take-le, sum_by, Word, is_name, no_thread, no_thread_def, no_pipe_def, no_timer_def, no_task_def, thread_def, pipe_def, timer_def, task_def, Done, ThreadDef, Task, Program, AreDistinct, IsAccepted, none_before, fresh_before, pipe_name, timer_name, thread_name, IsTyped}
use Rattle.std.proofs.lemmas.List.Recursion.{is_sum_by}
use Rattle.program_text.proofs.LineByLine.{all_behind, by_number}
use Rattle.program_text.proofs.FormsAgain.{IsNew, CanThread}
use Rattle.program_text.proofs.InstrsAgain.{CanCode}
use Rattle.program_text.proofs.TasksAgain.{CanInstrs}
use Rattle.program_text.proofs.AllTasksAgain.{behind_tasks, all_code, drafted_size, drafted_taken, CanBehind}
use Rattle.program_text.proofs.TargetsAgain.{CanAim}
use Rattle.program_text.proofs.SectionAgain.{CanSource, CanPipe, CanTimer, without_tasks, CanRead}
use Rattle.ink_base.specs.declared.limits.TheConstants as limits

new_again : {X : Type 0} (name : X → Word) (most : ℕ) (xs : List X) (d : X) (i : ℕ) → i < length xs → length xs ≤ most → is_name (name (get_or xs i d)) ≡ true → AreDistinct (λ k. name (get_or xs k d)) (length xs)
    → IsNew name most (take i xs) (get_or xs i d)
new_again name most xs d i lt le named apart = record {
  room = omega (arith, length-take-le i xs (omega arith));
  named = named;
  fresh = fresh_before name xs d i lt apart;
}

thread_can : (program : Program) → IsAccepted program → IsTyped program → (i : ℕ) → i < length program.threads → CanThread (take i program.threads) (thread_def program i)
thread_can program is typed i lt = record {
  new = new_again thread_name 16 program.threads no_thread_def i lt is.counts.threads (typed.threads i no_thread_def lt) is.distinct.threads;
  alone = none_before (λ (t : ThreadDef). eqb t.priority (thread_def program i).priority) program.threads no_thread_def i lt (λ k below. ne_eqb (thread_def program k).priority (thread_def program i).priority (is.distinct.priorities k i below lt));
  right = is.threads i lt;
}

source_can : (program : Program) → IsAccepted program → (i : ℕ) → i < length program.sources → CanSource program (take i program.sources) (get_or program.sources i no_thread)
source_can program is i lt = record {
  room = omega (arith, length-take-le i program.sources (omega arith), is.counts.sources);
  thread = is.sources i lt;
}

pipe_can : (program : Program) → IsAccepted program → IsTyped program → (i : ℕ) → i < length program.pipes → CanPipe program (take i program.pipes) (pipe_def program i)
pipe_can program is typed i lt = record {
  new = new_again pipe_name 8 program.pipes no_pipe_def i lt is.counts.pipes (typed.pipes i no_pipe_def lt) is.distinct.pipes;
  right = is.pipes i lt;
}

timer_can : (program : Program) → IsAccepted program → IsTyped program → (i : ℕ) → i < length program.timers → CanTimer program (take i program.timers) (timer_def program i)
timer_can program is typed i lt = record {
  new = new_again timer_name 8 program.timers no_timer_def i lt is.counts.timers (typed.timers i no_timer_def lt) is.distinct.timers;
  right = is.timers i lt;
}

-- the instructions of the tasks up to one are not more than all
code_upto : (ts : List Task) (d : Task) (i : ℕ) → i < length ts → all_code (take i ts) + length (get_or ts i d).code ≤ all_code ts
code_upto [] d i lt = absurd (omega arith)
code_upto (t ∷ ts) d zero lt = omega arith
code_upto (t ∷ ts) d (suc i) lt = omega (arith, code_upto ts d i (omega arith))

all_code_is : (ts : List Task) → all_code ts ≡ sum_by (λ (t : Task). length t.code) ts
all_code_is ts = is_sum_by all_code (λ (t : Task). length t.code) refl (λ t us. refl) ts

room_for : (program : Program) → IsAccepted program → (i : ℕ) → i < length program.tasks → all_code (take i program.tasks) + length (task_def program i).code ≤ limits.INSTRUCTIONS
room_for program is i lt = omega (arith, code_upto program.tasks no_task_def i lt, all_code_is program.tasks, is.counts.code)

pub short_code : (program : Program) → IsAccepted program → (i : ℕ) → i < length program.tasks → length (task_def program i).code < 2 ^ 64
short_code program is i lt = omega (arith, room_for program is i lt)

code_can : (program : Program) (line : ℕ) → IsAccepted program → IsTyped program → (i : ℕ) → i < length program.tasks → CanCode program (behind_tasks program (without_tasks program) line (take i program.tasks)) (task_def program i)
code_can program line is typed i lt = record {
  pipes = refl;
  timers = refl;
  distinct = is.distinct;
  named = λ x less. (typed.tasks x no_task_def less).name;
  short = omega (arith, room_for program is i lt);
}

instrs_can : (program : Program) → IsAccepted program → IsTyped program → (i : ℕ) → i < length program.tasks → CanInstrs program (task_def program i) (all_code (take i program.tasks))
instrs_can program is typed i lt = record {
  fits = λ o less. (typed.tasks i no_task_def lt).code o Done less;
  right = (is.tasks i lt).instrs;
  room = room_for program is i lt;
}

task_can : (program : Program) (line : ℕ) → IsAccepted program → IsTyped program → (i : ℕ) → i < length program.tasks → CanBehind program (without_tasks program) line (take i program.tasks) (task_def program i)
task_can program line is typed i lt =
    let right = is.tasks i lt in
    let before = take i program.tasks in
    record {
      threads = refl;
      apart = is.distinct.threads;
      new = record {
        room = omega (arith, drafted_size program line 0 before, length-take-le i program.tasks (omega arith), is.counts.tasks);
        named = (typed.tasks i no_task_def lt).name;
        fresh = drafted_taken program line 0 before (task_def program i).name ∙ fresh_before (λ (t : Task). t.name) program.tasks no_task_def i lt is.distinct.tasks;
      };
      thread = right.thread;
      limit_least = right.limit_least;
      limit = right.limit;
      code = code_can program line is typed i lt;
      instrs = instrs_can program is typed i lt;
    }

aim_can : (program : Program) → IsAccepted program → (i : ℕ) → i < length program.tasks → CanAim program (task_def program i)
aim_can program is i lt = record { short = omega (arith, room_for program is i lt); right = (is.tasks i lt).instrs }

-- the canonical text of an accepted program can be read
pub accepted_can : (program : Program) → IsAccepted program → IsTyped program → CanRead program
accepted_can program is typed = record {
  distinct = is.distinct;
  threads = all_behind CanThread program.threads no_thread_def (thread_can program is typed);
  sources = all_behind (CanSource program) program.sources no_thread (source_can program is);
  pipes = all_behind (CanPipe program) program.pipes no_pipe_def (pipe_can program is typed);
  timers = all_behind (CanTimer program) program.timers no_timer_def (timer_can program is typed);
  tasks = λ line. all_behind (CanBehind program (without_tasks program) line) program.tasks no_task_def (task_can program line is typed);
  aims = by_number (CanAim program) program.tasks no_task_def (aim_can program is);
}
