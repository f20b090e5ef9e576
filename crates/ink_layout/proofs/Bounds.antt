-- An accepted program has fewer words than the limit.
use Rattle.ink_layout.proofs.Common.{◌≡◌, ℕ, suc, ◌+◌, ◌*◌, ◌/◌, ◌<◌, ◌≤◌, List, [], ◌∷◌, ◌++◌, length, map, get_or, refl, arith, sum_by, ThreadDef, Program, no_thread_def, no_pipe_def, IsAccepted, IsRightThread, IsRightPipe, thread_regions, queue_regions, words_before, thread_shape, task_words, pipe_words, queue_words, shape_of, words_of}
use Rattle.ink_base.specs.declared.limits.TheConstants as limits
use Rattle.fram_words.specs.Header as header
use Rattle.std.proofs.lemmas.List.Sums.{sum_by-cons}
use Rattle.task_isa.specs.declared.program.PipeDef.{PipeDef}
use Rattle.task_isa.specs.declared.program.Task.{Task}

-- all words of some regions
abbrev all_words : List ℕ → ℕ
all_words xs = words_before xs (length xs)

all_append : (xs ys : List ℕ) → all_words (xs ++ ys) ≡ all_words xs + all_words ys
all_append [] ys = omega arith
all_append (x ∷ xs) ys = let h = all_append xs ys in omega (arith, h)

code_words : (tasks : List Task) → all_words (map task_words tasks) ≡ sum_by task_words tasks
code_words [] = refl
code_words (x ∷ xs) = let h = code_words xs in let s = sum_by-cons task_words x xs in omega (arith, h, s)

-- the words of a thread's block: its commit word, both copies of its pages, and its log
abbrev most_block_words : ℕ
most_block_words = 1 + 16 * ((header.words + limits.STATE_NUMBERS) / 8) + limits.LOG_PLACES

-- the words of a queue: its tail and its slots
abbrev most_queue_words : ℕ
most_queue_words = 1 + limits.QUEUE_PLACES

block_bound : (xs : List ThreadDef) → ((t : ℕ) → t < length xs → IsRightThread (get_or xs t no_thread_def)) →
    all_words (thread_regions (map thread_shape xs)) ≤ most_block_words * length xs
block_bound [] right = omega arith
block_bound (x ∷ xs) right =
    let h : all_words (thread_regions (map thread_shape xs)) ≤ most_block_words * length xs = block_bound xs (λ t lt. right (suc t) (omega arith)) in
    let r : IsRightThread x = right 0 (omega arith) in
    let state : x.state ≤ limits.STATE_NUMBERS = r.state in
    let log : x.log ≤ limits.LOG_PLACES = r.log in
    omega arith

queue_bound : (xs : List ThreadDef) → ((t : ℕ) → t < length xs → IsRightThread (get_or xs t no_thread_def)) →
    all_words (queue_regions (map queue_words xs)) ≤ most_queue_words * length xs
queue_bound [] right = omega arith
queue_bound (x ∷ xs) right =
    let h : all_words (queue_regions (map queue_words xs)) ≤ most_queue_words * length xs = queue_bound xs (λ t lt. right (suc t) (omega arith)) in
    let r : IsRightThread x = right 0 (omega arith) in
    let queue : x.queue ≤ limits.QUEUE_PLACES = r.queue in
    omega arith

ring_bound : (program : Program) (xs : List PipeDef) → ((q : ℕ) → q < length xs → IsRightPipe program (get_or xs q no_pipe_def)) →
    all_words (map pipe_words xs) ≤ limits.PIPE_PLACES * length xs
ring_bound program [] right = omega arith
ring_bound program (x ∷ xs) right =
    let h : all_words (map pipe_words xs) ≤ limits.PIPE_PLACES * length xs = ring_bound program xs (λ q lt. right (suc q) (omega arith)) in
    let r : IsRightPipe program x = right 0 (omega arith) in
    let places : x.places ≤ limits.PIPE_PLACES = r.places in
    omega arith

pub few_words : (program : Program) → IsAccepted program → words_of (shape_of program) < limits.BOARD_WORDS
few_words program a =
    let tasks : List ℕ = map task_words program.tasks in
    let blocks : List ℕ = thread_regions (map thread_shape program.threads) in
    let rings : List ℕ = map pipe_words program.pipes in
    let queues : List ℕ = queue_regions (map queue_words program.threads) in
    let rest : List ℕ = length program.sources ∷ 1 ∷ length program.sources ∷ [] in
    let one : all_words (tasks ++ (blocks ++ (rings ++ (queues ++ rest)))) ≡ all_words tasks + all_words (blocks ++ (rings ++ (queues ++ rest))) = all_append tasks _ in
    let two : all_words (blocks ++ (rings ++ (queues ++ rest))) ≡ all_words blocks + all_words (rings ++ (queues ++ rest)) = all_append blocks _ in
    let three : all_words (rings ++ (queues ++ rest)) ≡ all_words rings + all_words (queues ++ rest) = all_append rings _ in
    let four : all_words (queues ++ rest) ≡ all_words queues + all_words rest = all_append queues _ in
    let code : all_words tasks ≡ sum_by task_words program.tasks = code_words program.tasks in
    let small : sum_by task_words program.tasks ≤ limits.INSTRUCTIONS = a.counts.code in
    let b : all_words blocks ≤ most_block_words * length program.threads = block_bound program.threads a.threads in
    let q : all_words queues ≤ most_queue_words * length program.threads = queue_bound program.threads a.threads in
    let r : all_words rings ≤ limits.PIPE_PLACES * length program.pipes = ring_bound program program.pipes a.pipes in
    omega (arith, a.counts.threads, a.counts.pipes, a.counts.sources)
