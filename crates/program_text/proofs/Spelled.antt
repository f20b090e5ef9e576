-- The lines of a program's canonical text, as words.
use Rattle.program_text.proofs.Common.{ℕ, zero, suc, Bool, true, false, List, [], ◌∷◌, ◌++◌, length, Option, Some, None, codes, decimal, flat_map, Word, ThreadId, pipe_def, timer_def, task_def, instr_at, Instr, Li, Mov, Add, Sub, Mul, And, Or, Xor, Shl, Shr, Divu, Remu, Ltu, Eq, Jmp, Jz, Jnz, Ev, Kind, Num, Now, Ld, St, Out, Send, Arm, Stop, Next, Done, ThreadDef, PipeDef, TimerDef, Task, Program, is_target}
use Rattle.program_text.specs.Print.{thread_name}

-- lists one behind the other, and what follows them
abbrev pub chain : {A : Type 0} → List (List A) → List A → List A
chain [] rest = rest
chain (p ∷ ps) rest = p ++ chain ps rest

abbrev pub expires_words : Option ℕ → List Word
expires_words None = []
expires_words (Some ticks) = codes "expires" ∷ decimal ticks ∷ []

abbrev pub thread_words : ThreadDef → List Word
thread_words t =
    codes "thread" ∷ t.name ∷ codes "priority" ∷ decimal t.priority ∷ codes "queue" ∷ decimal t.queue ∷ codes "state" ∷ decimal t.state
    ∷ codes "log" ∷ decimal t.log ∷ expires_words t.expires

abbrev pub source_words : Program → ThreadId → List Word
source_words program t = codes "source" ∷ thread_name program t ∷ []

abbrev pub pipe_words : Program → PipeDef → List Word
pipe_words program p =
    codes "pipe" ∷ p.name ∷ decimal p.places ∷ codes "from" ∷ thread_name program p.writer ∷ codes "to" ∷ thread_name program p.reader ∷ []

abbrev pub start_words : Option ℕ → ℕ → List Word
start_words None period = codes "off" ∷ []
start_words (Some due) period = codes "due" ∷ decimal due ∷ codes "period" ∷ decimal period ∷ []

abbrev pub timer_words : Program → TimerDef → List Word
timer_words program t = codes "timer" ∷ t.name ∷ codes "thread" ∷ thread_name program t.thread ∷ start_words t.due t.period

abbrev pub register_word : ℕ → Word
register_word r = 114 ∷ decimal r

-- the label of an offset
abbrev pub label_name : ℕ → Word
label_name o = 76 ∷ decimal o

abbrev pub one_words : Word → ℕ → List Word
one_words word a = word ∷ register_word a ∷ []

abbrev pub two_words : Word → ℕ → ℕ → List Word
two_words word a b = word ∷ register_word a ∷ register_word b ∷ []

abbrev pub three_words : Word → ℕ → ℕ → ℕ → List Word
three_words word a b c = word ∷ register_word a ∷ register_word b ∷ register_word c ∷ []

abbrev pub jump_words : Word → ℕ → ℕ → List Word
jump_words word a i = word ∷ register_word a ∷ label_name i ∷ []

abbrev pub device_words : Word → Word → ℕ → ℕ → List Word
device_words word name a b = word ∷ name ∷ register_word a ∷ register_word b ∷ []

unfoldable pub instr_words : Program → Instr → List Word
instr_words program (Li a i) = codes "li" ∷ register_word a ∷ decimal i ∷ []
instr_words program (Mov a b) = two_words (codes "mov") a b
instr_words program (Add a b c) = three_words (codes "add") a b c
instr_words program (Sub a b c) = three_words (codes "sub") a b c
instr_words program (Mul a b c) = three_words (codes "mul") a b c
instr_words program (And a b c) = three_words (codes "and") a b c
instr_words program (Or a b c) = three_words (codes "or") a b c
instr_words program (Xor a b c) = three_words (codes "xor") a b c
instr_words program (Shl a b c) = three_words (codes "shl") a b c
instr_words program (Shr a b c) = three_words (codes "shr") a b c
instr_words program (Divu a b c) = three_words (codes "divu") a b c
instr_words program (Remu a b c) = three_words (codes "remu") a b c
instr_words program (Ltu a b c) = three_words (codes "ltu") a b c
instr_words program (Eq a b c) = three_words (codes "eq") a b c
instr_words program (Jmp i) = codes "jmp" ∷ label_name i ∷ []
instr_words program (Jz a i) = jump_words (codes "jz") a i
instr_words program (Jnz a i) = jump_words (codes "jnz") a i
instr_words program (Ev a) = one_words (codes "ev") a
instr_words program (Kind a) = one_words (codes "kind") a
instr_words program (Num a) = one_words (codes "num") a
instr_words program (Now a) = one_words (codes "now") a
instr_words program (Ld a b) = two_words (codes "ld") a b
instr_words program (St a b) = two_words (codes "st") a b
instr_words program (Out a) = one_words (codes "out") a
instr_words program (Send i a b) = device_words (codes "send") (pipe_def program i).name a b
instr_words program (Arm i a b) = device_words (codes "arm") (timer_def program i).name a b
instr_words program (Stop i) = codes "stop" ∷ (timer_def program i).name ∷ []
instr_words program (Next i) = codes "next" ∷ (task_def program i).name ∷ []
instr_words program Done = codes "done" ∷ []

abbrev pub label_lines : Bool → ℕ → List (List Word)
label_lines true o = ((label_name o ++ 58 ∷ []) ∷ []) ∷ []
label_lines false o = []

-- the lines of the instruction at an offset
abbrev pub instr_lines : Program → Task → ℕ → List (List Word)
instr_lines program task o = label_lines (is_target task.code o) o ++ instr_words program (instr_at task o) ∷ []

-- the lines of the first n instructions
abbrev pub lines_below : Program → Task → ℕ → List (List Word)
lines_below program task zero = []
lines_below program task (suc n) = lines_below program task n ++ instr_lines program task n

abbrev pub task_words : Program → Task → List Word
task_words program t = codes "task" ∷ t.name ∷ codes "thread" ∷ thread_name program t.thread ∷ codes "limit" ∷ decimal t.limit ∷ []

abbrev pub task_lines : Program → Task → List (List Word)
task_lines program t = task_words program t ∷ (lines_below program t (length t.code) ++ (codes "end" ∷ []) ∷ [])

abbrev pub thread_lines : ThreadDef → List (List Word)
thread_lines t = thread_words t ∷ []

abbrev pub source_lines : Program → ThreadId → List (List Word)
source_lines program t = source_words program t ∷ []

abbrev pub pipe_lines : Program → PipeDef → List (List Word)
pipe_lines program p = pipe_words program p ∷ []

abbrev pub timer_lines : Program → TimerDef → List (List Word)
timer_lines program t = timer_words program t ∷ []

-- the lines behind the section's header, kind by kind
abbrev pub kinds : Program → List (List (List Word))
kinds program =
    flat_map thread_lines program.threads ∷ flat_map (source_lines program) program.sources ∷ flat_map (pipe_lines program) program.pipes
    ∷ flat_map (timer_lines program) program.timers ∷ flat_map (task_lines program) program.tasks ∷ []

abbrev pub program_lines : Program → List (List Word)
program_lines program = (codes "[program]" ∷ []) ∷ chain (kinds program) []
