-- The lines of a whole printed program are lines of words, and none behind the first is a header.
use Rattle.program_text.proofs.Common.{◌≡◌, true, List, [], ◌∷◌, length, get_or, refl, ◌∙◌, list_all, flat_map, AllByRecursion, and_parts, and_from, list_all-append, Word, no_thread, no_thread_def, no_pipe_def, no_timer_def, no_task_def, thread_def, pipe_def, timer_def, task_def, Done, Program, IsAccepted, IsTyped}
use Rattle.program_text.proofs.Rendering.{are_words}
use Rattle.program_text.proofs.Spelled.{chain, thread_lines, source_lines, pipe_lines, timer_lines, task_lines, thread_words, source_words, pipe_words, timer_words, kinds}
use Rattle.program_text.proofs.LineByLine.{no_header}
use Rattle.program_text.proofs.Worded.{◌also◌, is_line, AreNamed, one_line, thread_worded, source_worded, pipe_worded, timer_worded, task_worded, below_worded, task_lines_worded, each_worded}
use Rattle.program_text.proofs.AcceptedAgain.{short_code}

-- all lines behind the header are lines of words, and no headers
all_chained : (xss : List (List (List (Word)))) → AllByRecursion (λ (xs : List (List Word)). list_all is_line xs ≡ true) xss → list_all is_line (chain xss []) ≡ true
all_chained [] h = refl
all_chained (xs ∷ xss) h = list_all-append is_line xs (chain xss []) ∙ and_from (list_all is_line xs) (list_all is_line (chain xss [])) h.0 (all_chained xss h.1)

names_of : (program : Program) → IsTyped program → AreNamed program
names_of program typed = record {
  threads = λ i lt. typed.threads i no_thread_def lt;
  pipes = λ i lt. typed.pipes i no_pipe_def lt;
  timers = λ i lt. typed.timers i no_timer_def lt;
  tasks = λ i lt. (typed.tasks i no_task_def lt).name;
}

threads_worded : (program : Program) → IsAccepted program → IsTyped program → list_all is_line (flat_map thread_lines program.threads) ≡ true
threads_worded program is typed =
    each_worded thread_lines program.threads no_thread_def (λ i lt. one_line (thread_words (thread_def program i)) (thread_worded (thread_def program i) (typed.threads i no_thread_def lt) (is.threads i lt)))

sources_worded : (program : Program) → IsAccepted program → IsTyped program → list_all is_line (flat_map (source_lines program) program.sources) ≡ true
sources_worded program is typed =
    each_worded (source_lines program) program.sources no_thread (λ i lt.
    let source = get_or program.sources i no_thread in
    one_line (source_words program source) (source_worded program source (names_of program typed) (is.sources i lt)))

pipes_worded : (program : Program) → IsAccepted program → IsTyped program → list_all is_line (flat_map (pipe_lines program) program.pipes) ≡ true
pipes_worded program is typed =
    each_worded (pipe_lines program) program.pipes no_pipe_def (λ i lt.
    let pipe = pipe_def program i in
    one_line (pipe_words program pipe) (pipe_worded program pipe (names_of program typed) (typed.pipes i no_pipe_def lt) (is.pipes i lt)))

timers_worded : (program : Program) → IsAccepted program → IsTyped program → list_all is_line (flat_map (timer_lines program) program.timers) ≡ true
timers_worded program is typed =
    each_worded (timer_lines program) program.timers no_timer_def (λ i lt.
    let timer = timer_def program i in
    one_line (timer_words program timer) (timer_worded program timer (names_of program typed) (typed.timers i no_timer_def lt) (is.timers i lt)))

tasks_worded : (program : Program) → IsAccepted program → IsTyped program → list_all is_line (flat_map (task_lines program) program.tasks) ≡ true
tasks_worded program is typed =
    each_worded (task_lines program) program.tasks no_task_def (λ i lt.
    let t = task_def program i in
    let right = is.tasks i lt in
    let own = typed.tasks i no_task_def lt in
    task_lines_worded program t (task_worded program t (names_of program typed) own.name right.thread right.limit)
    (below_worded program t (length t.code) (names_of program typed) (λ o less. own.code o Done less) right.instrs (short_code program is i lt)))

both_parts : (lss : List (List Word)) → list_all is_line lss ≡ true → (list_all are_words lss ≡ true) × (list_all no_header lss ≡ true)
both_parts [] h = (refl, refl)
both_parts (ws ∷ lss) h =
    let both = and_parts (is_line ws) (list_all is_line lss) h in
    let first = and_parts (are_words ws) (no_header ws) both.0 in
    let more = both_parts lss both.1 in
    (and_from (are_words ws) (list_all are_words lss) first.0 more.0, and_from (no_header ws) (list_all no_header lss) first.1 more.1)

-- the lines behind the header of the section
pub kinds_worded : (program : Program) → IsAccepted program → IsTyped program → (list_all are_words (chain (kinds program) []) ≡ true) × (list_all no_header (chain (kinds program) []) ≡ true)
kinds_worded program is typed =
    both_parts (chain (kinds program) []) (all_chained (kinds program) (
    threads_worded program is typed also sources_worded program is typed also pipes_worded program is typed also timers_worded program is typed also tasks_worded program is typed also tt))
