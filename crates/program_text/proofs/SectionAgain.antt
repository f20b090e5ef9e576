-- The lines of a printed program are read as the program.
use Rattle.program_text.proofs.Common.{◌≡◌, ℕ, zero, suc, ◌+◌, ◌<◌, List, [], ◌∷◌, ◌++◌, length, None, Result, Ok, refl, sym, ap, ◌∙◌, arith, length-append, flat_map, AllByRecursion, add-one, length_push, ThreadId, JobFault, ◌>>◌, ThreadDef, PipeDef, TimerDef, Task, Program, HasDistinct, IsRightPipe, IsRightTimer, Draft, pipe_name, timer_name, empty_draft}
use Rattle.task_lines.specs.Outside.{outside_line}
use Rattle.task_asm.specs.Targets.{program_of}
use Rattle.task_lines.specs.Task.{line_in}
use Rattle.program_text.proofs.Spelled.{chain, thread_words, source_words, pipe_words, timer_words, thread_lines, source_lines, pipe_lines, timer_lines, task_lines, kinds}
use Rattle.program_text.proofs.LineByLine.{read_all, read_append, read_one, AllBehind, read_each}
use Rattle.program_text.proofs.FormsAgain.{IsNew, CanThread, AreApart, thread_again, source_again, pipe_again, timer_again}
use Rattle.program_text.proofs.AllTasksAgain.{behind_tasks, CanBehind, tasks_again}
use Rattle.program_text.proofs.TargetsAgain.{CanAim, finds_tasks, tasks_of-again}

-- the lines of threads, from the second on
abbrev pub thread_numbers : ℕ → List ℕ
thread_numbers zero = []
thread_numbers (suc n) = thread_numbers n ++ (2 + n) ∷ []

-- the draft behind so many declarations, and no task
abbrev pub declared : List ThreadDef → List ThreadId → List PipeDef → List TimerDef → Draft
declared threads sources pipes timers =
    record { threads = threads; thread_lines = thread_numbers (length threads); sources = sources; pipes = pipes; timers = timers; tasks = []; current = None; count = 0 }

one_more : {X : Type 0} (base : ℕ) (before : List X) (x : X) → base + length (before ++ x ∷ []) ≡ base + length before + 1
one_more base before x = omega (arith, length-append before (x ∷ []))

size_push : {X : Type 0} (before : List X) (x : X) → length (before ++ x ∷ []) ≡ suc (length before)
size_push before x = length_push before x ∙ add-one (length before)

thread_step : (before : List ThreadDef) (t : ThreadDef) → CanThread before t → line_in (declared before [] [] []) (2 + length before) (thread_words t) ≡ Ok (declared (before ++ t ∷ []) [] [] [])
unfolding line_in outside_line
thread_step before t can =
    thread_again (declared before [] [] []) (2 + length before) t can
    ∙ ap (λ (n : ℕ). Ok (record (declared (before ++ t ∷ []) [] [] []) { thread_lines = thread_numbers n })) (sym (size_push before t))

threads_again : (ts : List ThreadDef) → AllBehind CanThread [] ts → read_all (declared [] [] [] []) (2 + 0) (flat_map thread_lines ts) ≡ Ok (declared ts [] [] [])
threads_again ts all =
    read_each (λ before. declared before [] [] []) (λ before. 2 + length before) thread_lines CanThread (λ before t can. read_one (declared before [] [] []) (2 + length before) (thread_words t) _ (thread_step before t can)) (one_more 2) [] ts all

-- what a source is that can be read behind others
pub record CanSource (program : Program) (before : List ThreadId) (t : ThreadId) : Type 0 where
  pub room : length before < 16
  pub thread : t.0 < length program.threads

source_step : (program : Program) (base : ℕ) (before : List ThreadId) (t : ThreadId) → AreApart program → CanSource program before t
    → line_in (declared program.threads before [] []) (base + length before) (source_words program t) ≡ Ok (declared program.threads (before ++ t ∷ []) [] [])
unfolding line_in outside_line
source_step program base before t apart can = source_again program (declared program.threads before [] []) t refl apart can.thread can.room

sources_again : (program : Program) (base : ℕ) (ts : List ThreadId) → AreApart program → AllBehind (CanSource program) [] ts
    → read_all (declared program.threads [] [] []) (base + 0) (flat_map (source_lines program) ts) ≡ Ok (declared program.threads ts [] [])
sources_again program base ts apart all =
    read_each (λ before. declared program.threads before [] []) (λ before. base + length before) (source_lines program) (CanSource program)
    (λ before t can. read_one (declared program.threads before [] []) (base + length before) (source_words program t) _ (source_step program base before t apart can)) (one_more base) [] ts all

-- what a pipe is that can be read behind others
pub record CanPipe (program : Program) (before : List PipeDef) (p : PipeDef) : Type 0 where
  pub new : IsNew pipe_name 8 before p
  pub right : IsRightPipe program p

pipe_step : (program : Program) (base : ℕ) (before : List PipeDef) (p : PipeDef) → AreApart program → CanPipe program before p
    → line_in (declared program.threads program.sources before []) (base + length before) (pipe_words program p) ≡ Ok (declared program.threads program.sources (before ++ p ∷ []) [])
unfolding line_in outside_line
pipe_step program base before p apart can = pipe_again program (declared program.threads program.sources before []) p refl apart can.new can.right

pipes_again : (program : Program) (base : ℕ) (ps : List PipeDef) → AreApart program → AllBehind (CanPipe program) [] ps
    → read_all (declared program.threads program.sources [] []) (base + 0) (flat_map (pipe_lines program) ps) ≡ Ok (declared program.threads program.sources ps [])
pipes_again program base ps apart all =
    read_each (λ before. declared program.threads program.sources before []) (λ before. base + length before) (pipe_lines program) (CanPipe program)
    (λ before p can. read_one (declared program.threads program.sources before []) (base + length before) (pipe_words program p) _ (pipe_step program base before p apart can)) (one_more base) [] ps all

-- what a timer is that can be read behind others
pub record CanTimer (program : Program) (before : List TimerDef) (t : TimerDef) : Type 0 where
  pub new : IsNew timer_name 8 before t
  pub right : IsRightTimer program t

timer_step : (program : Program) (base : ℕ) (before : List TimerDef) (t : TimerDef) → AreApart program → CanTimer program before t
    → line_in (declared program.threads program.sources program.pipes before) (base + length before) (timer_words program t) ≡ Ok (declared program.threads program.sources program.pipes (before ++ t ∷ []))
unfolding line_in outside_line
timer_step program base before t apart can = timer_again program (declared program.threads program.sources program.pipes before) t refl apart can.new can.right

timers_again : (program : Program) (base : ℕ) (ts : List TimerDef) → AreApart program → AllBehind (CanTimer program) [] ts
    → read_all (declared program.threads program.sources program.pipes []) (base + 0) (flat_map (timer_lines program) ts) ≡ Ok (declared program.threads program.sources program.pipes ts)
timers_again program base ts apart all =
    read_each (λ before. declared program.threads program.sources program.pipes before) (λ before. base + length before) (timer_lines program) (CanTimer program)
    (λ before t can. read_one (declared program.threads program.sources program.pipes before) (base + length before) (timer_words program t) _ (timer_step program base before t apart can)) (one_more base) [] ts all

-- the draft of all declarations of a program but its tasks
abbrev pub without_tasks : Program → Draft
without_tasks program = declared program.threads program.sources program.pipes program.timers

-- what a program is whose canonical text can be read
pub record CanRead (program : Program) : Type 0 where
  pub distinct : HasDistinct program
  pub threads : AllBehind CanThread [] program.threads
  pub sources : AllBehind (CanSource program) [] program.sources
  pub pipes : AllBehind (CanPipe program) [] program.pipes
  pub timers : AllBehind (CanTimer program) [] program.timers
  pub tasks : (line : ℕ) → AllBehind (CanBehind program (without_tasks program) line) [] program.tasks
  pub aims : AllByRecursion (CanAim program) program.tasks

-- the line of the first task
abbrev pub first_task_line : Program → ℕ
first_task_line program =
    2 + length (flat_map thread_lines program.threads) + length (flat_map (source_lines program) program.sources)
    + length (flat_map (pipe_lines program) program.pipes) + length (flat_map (timer_lines program) program.timers)

-- the draft of a program
abbrev pub draft_of_program : Program → Draft
draft_of_program program = behind_tasks program (without_tasks program) (first_task_line program) program.tasks

nothing_more : (d : Draft) (n : ℕ) → read_all d n [] ≡ Ok d
unfolding read_all
nothing_more d n = refl

-- all lines behind the header
pub kinds_again : (program : Program) → CanRead program → read_all empty_draft 2 (chain (kinds program) []) ≡ Ok (draft_of_program program)
kinds_again program can =
    let apart = can.distinct.threads in
    let a = flat_map thread_lines program.threads in
    let b = flat_map (source_lines program) program.sources in
    let c = flat_map (pipe_lines program) program.pipes in
    let e = flat_map (timer_lines program) program.timers in
    let f = flat_map (task_lines program) program.tasks in
    let last = first_task_line program in
    let done = draft_of_program program in
    let fifth = read_append (without_tasks program) done (last + 0) (last + 0 + length f) f [] (Ok done) (tasks_again program (without_tasks program) last program.tasks (can.tasks last)) refl (nothing_more done _) in
    let four = 2 + length a + length b + length c in
    let fourth = read_append (declared program.threads program.sources program.pipes []) (without_tasks program) (four + 0) (last + 0) e (f ++ []) (Ok done) (timers_again program four program.timers apart can.timers) (omega arith) fifth in
    let three = 2 + length a + length b in
    let third = read_append (declared program.threads program.sources [] []) (declared program.threads program.sources program.pipes []) (three + 0) (four + 0) c (e ++ (f ++ [])) (Ok done) (pipes_again program three program.pipes apart can.pipes) (omega arith) fourth in
    let two = 2 + length a in
    let second = read_append (declared program.threads [] [] []) (declared program.threads program.sources [] []) (two + 0) (three + 0) b (c ++ (e ++ (f ++ []))) (Ok done) (sources_again program two program.sources apart can.sources) (omega arith) third in
    read_append (declared [] [] [] []) (declared program.threads [] [] []) 2 (two + 0) a (b ++ (c ++ (e ++ (f ++ [])))) (Ok done) (threads_again program.threads can.threads) (omega arith) second

-- the program of that draft
pub program_again : (program : Program) → CanRead program → program_of (draft_of_program program) ≡ Ok program
unfolding program_of
program_again program can =
    ap (λ (r : Result (List Task) JobFault). r >> (λ tasks. Ok (record { threads = program.threads; sources = program.sources; pipes = program.pipes; timers = program.timers; tasks = tasks })))
    (tasks_of-again program (draft_of_program program).tasks (first_task_line program) 0 program.tasks (finds_tasks program (first_task_line program) can.distinct) can.aims)
