-- The canonical text of a program is the text of its lines.
use Rattle.program_text.proofs.Common.{◌≡◌, ℕ, zero, suc, Bool, true, false, List, [], ◌∷◌, ◌++◌, length, Option, Some, None, codes, decimal, refl, sym, ap, ◌∙◌, append_assoc, append-nil, flat_map, Word, ThreadId, pipe_def, timer_def, instr_at, Instr, Li, Mov, Add, Sub, Mul, And, Or, Xor, Shl, Shr, Divu, Remu, Ltu, Eq, Jmp, Jz, Jnz, Ev, Kind, Num, Now, Ld, St, Out, Send, Arm, Stop, Next, Done, ThreadDef, PipeDef, TimerDef, Task, Program, expires_text, sizes_text, thread_text, source_text, ends_text, pipe_text, start_text, timer_text, register_text, one_text, two_text, three_text, jump_text, is_target, label_text, line_text as lines_at, each_below, task_line, task_text, print_of}
use Rattle.program_text.specs.Print.{thread_name, instr_text}
use Rattle.std.proofs.lemmas.List.Concat.{flat_map-append}
use Rattle.program_text.proofs.Rendering.{behind, line_text, text_of}
use Rattle.program_text.proofs.Spelled.{chain, expires_words, thread_words, source_words, pipe_words, start_words, timer_words, label_name, one_words, two_words, three_words, jump_words, instr_words, label_lines, instr_lines, lines_below, task_words, task_lines, thread_lines, source_lines, pipe_lines, timer_lines, program_lines}

-- pieces put together from the left
abbrev left : List ℕ → List (List ℕ) → List ℕ
left a [] = a
left a (p ∷ ps) = left (a ++ p) ps

left_then : (a : List ℕ) (ps : List (List ℕ)) (rest : List ℕ) → left a ps ++ rest ≡ a ++ chain ps rest
left_then a [] rest = refl
left_then a (p ∷ ps) rest = left_then (a ++ p) ps rest ∙ append_assoc a p (chain ps rest)

expires_line : (e : Option ℕ) → expires_text e ++ codes "\n" ≡ behind (expires_words e) (10 ∷ [])
expires_line None = refl
expires_line (Some ticks) = refl

thread_spelled : (t : ThreadDef) → thread_text t ≡ line_text (thread_words t)
thread_spelled t =
    let sizes : List (List ℕ) = decimal t.queue ∷ codes " state " ∷ decimal t.state ∷ codes " log " ∷ decimal t.log ∷ [] in
    left_then (codes "thread ") (t.name ∷ codes " priority " ∷ decimal t.priority ∷ sizes_text t ∷ expires_text t.expires ∷ []) (codes "\n")
    ∙ ap (λ (x : List ℕ). codes "thread " ++ (t.name ++ (codes " priority " ++ (decimal t.priority ++ x))))
    (left_then (codes " queue ") sizes (expires_text t.expires ++ codes "\n") ∙ ap (λ (x : List ℕ). codes " queue " ++ chain sizes x) (expires_line t.expires))

source_spelled : (program : Program) (t : ThreadId) → source_text program t ≡ line_text (source_words program t)
source_spelled program t = refl

pipe_spelled : (program : Program) (p : PipeDef) → pipe_text program p ≡ line_text (pipe_words program p)
pipe_spelled program p =
    left_then (codes "pipe ") (p.name ∷ codes " " ∷ decimal p.places ∷ ends_text program p ∷ []) (codes "\n")
    ∙ ap (λ (x : List ℕ). codes "pipe " ++ (p.name ++ (codes " " ++ (decimal p.places ++ x))))
    (left_then (codes " from ") (thread_name program p.writer ∷ codes " to " ∷ thread_name program p.reader ∷ []) (codes "\n"))

start_line : (due : Option ℕ) (period : ℕ) → start_text due period ++ codes "\n" ≡ behind (start_words due period) (10 ∷ [])
start_line None period = refl
start_line (Some due) period = left_then (codes " due ") (decimal due ∷ codes " period " ∷ decimal period ∷ []) (codes "\n")

timer_spelled : (program : Program) (t : TimerDef) → timer_text program t ≡ line_text (timer_words program t)
timer_spelled program t =
    left_then (codes "timer ") (t.name ∷ codes " thread " ∷ thread_name program t.thread ∷ start_text t.due t.period ∷ []) (codes "\n")
    ∙ ap (λ (x : List ℕ). codes "timer " ++ (t.name ++ (codes " thread " ++ (thread_name program t.thread ++ x)))) (start_line t.due t.period)

one_spelled : (word : Word) (a : ℕ) → one_text word a ++ codes "\n" ≡ line_text (one_words word a)
one_spelled word a = left_then word (register_text a ∷ []) (codes "\n")

two_spelled : (word : Word) (a b : ℕ) → two_text word a b ++ codes "\n" ≡ line_text (two_words word a b)
two_spelled word a b = left_then word (register_text a ∷ register_text b ∷ []) (codes "\n")

three_spelled : (word : Word) (a b c : ℕ) → three_text word a b c ++ codes "\n" ≡ line_text (three_words word a b c)
three_spelled word a b c = left_then word (register_text a ∷ register_text b ∷ register_text c ∷ []) (codes "\n")

jump_spelled : (word : Word) (a i : ℕ) → jump_text word a i ++ codes "\n" ≡ line_text (jump_words word a i)
jump_spelled word a i = left_then word (register_text a ∷ codes " L" ∷ decimal i ∷ []) (codes "\n")

instr_spelled : (program : Program) (instr : Instr) → instr_text program instr ++ codes "\n" ≡ line_text (instr_words program instr)
unfolding instr_text instr_words
instr_spelled program (Li a i) = left_then (codes "li") (register_text a ∷ codes " " ∷ decimal i ∷ []) (codes "\n")
instr_spelled program (Mov a b) = two_spelled (codes "mov") a b
instr_spelled program (Add a b c) = three_spelled (codes "add") a b c
instr_spelled program (Sub a b c) = three_spelled (codes "sub") a b c
instr_spelled program (Mul a b c) = three_spelled (codes "mul") a b c
instr_spelled program (And a b c) = three_spelled (codes "and") a b c
instr_spelled program (Or a b c) = three_spelled (codes "or") a b c
instr_spelled program (Xor a b c) = three_spelled (codes "xor") a b c
instr_spelled program (Shl a b c) = three_spelled (codes "shl") a b c
instr_spelled program (Shr a b c) = three_spelled (codes "shr") a b c
instr_spelled program (Divu a b c) = three_spelled (codes "divu") a b c
instr_spelled program (Remu a b c) = three_spelled (codes "remu") a b c
instr_spelled program (Ltu a b c) = three_spelled (codes "ltu") a b c
instr_spelled program (Eq a b c) = three_spelled (codes "eq") a b c
instr_spelled program (Jmp i) = refl
instr_spelled program (Jz a i) = jump_spelled (codes "jz") a i
instr_spelled program (Jnz a i) = jump_spelled (codes "jnz") a i
instr_spelled program (Ev a) = one_spelled (codes "ev") a
instr_spelled program (Kind a) = one_spelled (codes "kind") a
instr_spelled program (Num a) = one_spelled (codes "num") a
instr_spelled program (Now a) = one_spelled (codes "now") a
instr_spelled program (Ld a b) = two_spelled (codes "ld") a b
instr_spelled program (St a b) = two_spelled (codes "st") a b
instr_spelled program (Out a) = one_spelled (codes "out") a
instr_spelled program (Send i a b) = left_then (codes "send ") ((pipe_def program i).name ∷ register_text a ∷ register_text b ∷ []) (codes "\n")
instr_spelled program (Arm i a b) = left_then (codes "arm ") ((timer_def program i).name ∷ register_text a ∷ register_text b ∷ []) (codes "\n")
instr_spelled program (Stop i) = refl
instr_spelled program (Next i) = refl
instr_spelled program Done = refl

-- the text of one line, and of more lines
one_line : (ws : List Word) → text_of (ws ∷ []) ≡ line_text ws
one_line ws = append-nil (line_text ws)

more_lines : (xs ys : List (List Word)) (a b : List ℕ) → text_of xs ≡ a → text_of ys ≡ b → text_of (xs ++ ys) ≡ a ++ b
more_lines xs ys a b h k = flat_map-append line_text xs ys ∙ ap (λ (x : List ℕ). x ++ text_of ys) h ∙ ap (λ (y : List ℕ). a ++ y) k

label_spelled : (needed : Bool) (o : ℕ) → text_of (label_lines needed o) ≡ label_text needed o
label_spelled true o = one_line ((label_name o ++ 58 ∷ []) ∷ []) ∙ append_assoc (label_name o) (58 ∷ []) (10 ∷ [])
label_spelled false o = refl

at_spelled : (program : Program) (task : Task) (o : ℕ) → text_of (instr_lines program task o) ≡ lines_at program task o
at_spelled program task o =
    let words = instr_words program (instr_at task o) in
    more_lines (label_lines (is_target task.code o) o) (words ∷ []) (label_text (is_target task.code o) o) (instr_text program (instr_at task o) ++ codes "\n")
    (label_spelled (is_target task.code o) o) (one_line words ∙ sym (instr_spelled program (instr_at task o)))
    ∙ sym (append_assoc (label_text (is_target task.code o) o) (instr_text program (instr_at task o)) (codes "\n"))

below_spelled : (program : Program) (task : Task) (n : ℕ) → text_of (lines_below program task n) ≡ each_below n (lines_at program task)
below_spelled program task zero = refl
below_spelled program task (suc n) =
    more_lines (lines_below program task n) (instr_lines program task n) (each_below n (lines_at program task)) (lines_at program task n) (below_spelled program task n) (at_spelled program task n)

header_spelled : (program : Program) (t : Task) → task_line program t ≡ line_text (task_words program t)
header_spelled program t =
    left_then (codes "task ") (t.name ∷ codes " thread " ∷ thread_name program t.thread ∷ codes " limit " ∷ decimal t.limit ∷ []) (codes "\n")

task_spelled : (program : Program) (t : Task) → text_of (task_lines program t) ≡ task_text program t
task_spelled program t =
    let code = each_below (length t.code) (lines_at program t) in
    ap (λ (x : List ℕ). line_text (task_words program t) ++ x)
    (more_lines (lines_below program t (length t.code)) ((codes "end" ∷ []) ∷ []) code (codes "end\n") (below_spelled program t (length t.code)) refl)
    ∙ ap (λ (x : List ℕ). x ++ (code ++ codes "end\n")) (sym (header_spelled program t))
    ∙ sym (append_assoc (task_line program t) code (codes "end\n"))

each_spelled : {X : Type 0} (lines : X → List (List Word)) (text : X → List ℕ) → ((x : X) → text_of (lines x) ≡ text x) → (xs : List X) → text_of (flat_map lines xs) ≡ flat_map text xs
each_spelled lines text h [] = refl
each_spelled lines text h (x ∷ xs) = more_lines (lines x) (flat_map lines xs) (text x) (flat_map text xs) (h x) (each_spelled lines text h xs)

-- the text of a program is that of its lines
pub program_spelled : (program : Program) → print_of program ≡ text_of (program_lines program)
program_spelled program =
    let threads = each_spelled thread_lines thread_text (λ t. one_line (thread_words t) ∙ sym (thread_spelled t)) program.threads in
    let sources = each_spelled (source_lines program) (source_text program) (λ t. one_line (source_words program t)) program.sources in
    let pipes = each_spelled (pipe_lines program) (pipe_text program) (λ p. one_line (pipe_words program p) ∙ sym (pipe_spelled program p)) program.pipes in
    let timers = each_spelled (timer_lines program) (timer_text program) (λ t. one_line (timer_words program t) ∙ sym (timer_spelled program t)) program.timers in
    let tasks = each_spelled (task_lines program) (task_text program) (task_spelled program) program.tasks in
    let last = more_lines (flat_map (task_lines program) program.tasks) [] (flat_map (task_text program) program.tasks) [] tasks refl in
    let four = more_lines (flat_map (timer_lines program) program.timers) _ (flat_map (timer_text program) program.timers) _ timers last in
    let three = more_lines (flat_map (pipe_lines program) program.pipes) _ (flat_map (pipe_text program) program.pipes) _ pipes four in
    let two = more_lines (flat_map (source_lines program) program.sources) _ (flat_map (source_text program) program.sources) _ sources three in
    let all = more_lines (flat_map thread_lines program.threads) _ (flat_map thread_text program.threads) _ threads two in
    sym (append-nil (print_of program))
    ∙ left_then (codes "[program]\n") (flat_map thread_text program.threads ∷ flat_map (source_text program) program.sources ∷ flat_map (pipe_text program) program.pipes
    ∷ flat_map (timer_text program) program.timers ∷ flat_map (task_text program) program.tasks ∷ []) []
    ∙ ap (λ (x : List ℕ). codes "[program]\n" ++ x) (sym all)
