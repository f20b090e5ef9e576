-- The lines of a printed program are lines of words, and none of them is a header.
use Rattle.program_text.proofs.Common.{◌≡◌, ℕ, zero, suc, ◌<◌, ◌≤◌, ◌^◌, Bool, true, false, ◌&&◌, List, [], ◌∷◌, ◌++◌, length, get_or, drop, Option, Some, None, codes, decimal, refl, ◌∙◌, arith, ForSome, list_all, flat_map, AllByRecursion, and_from, and_parts, list_all-append, Word, ThreadId, FitsWord, IsInstr, thread_def, pipe_def, timer_def, task_def, instr_at, Instr, Li, Mov, Add, Sub, Mul, And, Or, Xor, Shl, Shr, Divu, Remu, Ltu, Eq, Jmp, Jz, Jnz, Ev, Kind, Num, Now, Ld, St, Out, Send, Arm, Stop, Next, Done, ThreadDef, PipeDef, TimerDef, Task, Program, IsRightThread, IsRightPipe, IsRightTimer, IsRightInstr, is_target, IsNamed}
use Rattle.ink_base.specs.declared.limits.TheConstants as limits
use Rattle.program_text.proofs.Rendering.{goes_on, is_word, are_words}
use Rattle.program_text.proofs.Spelled.{expires_words, thread_words, source_words, pipe_words, start_words, timer_words, register_word, label_name, instr_words, label_lines, instr_lines, lines_below, task_words, task_lines}
use Rattle.program_text.proofs.WordsAgain.{decimal_word, digits_go_on, name_word}
use Rattle.program_text.proofs.LineByLine.{no_header, by_number}

-- a line of words that is no header
abbrev pub is_line : List Word → Bool
is_line ws = are_words ws && no_header ws

-- the names of a program's parts by their numbers
pub record AreNamed (program : Program) : Type 0 where
  pub threads : (i : ℕ) → i < length program.threads → IsNamed (thread_def program i).name
  pub pipes : (i : ℕ) → i < length program.pipes → IsNamed (pipe_def program i).name
  pub timers : (i : ℕ) → i < length program.timers → IsNamed (timer_def program i).name
  pub tasks : (i : ℕ) → i < length program.tasks → IsNamed (task_def program i).name

abbrev pub ArePrinted : List Word → Type 0
ArePrinted ws = AllByRecursion (λ (w : Word). is_word w ≡ true) ws

infixr 4 ◌also◌
abbrev pub ◌also◌ : {A B : Type 0} → A → B → A × B
a also b = (a, b)

all_words : (ws : List Word) → ArePrinted ws → list_all is_word ws ≡ true
all_words [] h = refl
all_words (w ∷ ws) h = and_from (is_word w) (list_all is_word ws) h.0 (all_words ws h.1)

-- a line, by its first word and the others
line_from : (w : Word) (ws : List Word) → is_line (w ∷ []) ≡ true → ArePrinted ws → is_line (w ∷ ws) ≡ true
line_from [] ws h all = absurd (cc)
line_from (b ∷ w) ws h all =
    let parts = and_parts (are_words ((b ∷ w) ∷ [])) (no_header ((b ∷ w) ∷ [])) h in
    let first = and_parts (is_word (b ∷ w)) true parts.0 in
    and_from (are_words ((b ∷ w) ∷ ws)) (no_header ((b ∷ w) ∷ ws)) (and_from (is_word (b ∷ w)) (list_all is_word ws) first.0 (all_words ws all)) parts.1

expires_worded : (e : Option ℕ) → ForSome e (λ d. d ≤ limits.TICKS) → ArePrinted (expires_words e)
expires_worded None h = tt
expires_worded (Some d) h = let le : d ≤ limits.TICKS = h d refl in (refl also decimal_word d (omega arith) also tt)

pub thread_worded : (t : ThreadDef) → IsNamed t.name → IsRightThread t → is_line (thread_words t) ≡ true
thread_worded t named right =
    line_from (codes "thread") (drop 1 (thread_words t)) refl
    (name_word t.name named also refl also decimal_word t.priority (omega (arith, right.priority)) also refl also decimal_word t.queue (omega (arith, right.queue)) also refl also decimal_word t.state (omega (arith, right.state))
    also refl also decimal_word t.log (omega (arith, right.log)) also expires_worded t.expires right.expires)

thread_name_worded : (program : Program) (i : ℕ) → AreNamed program → i < length program.threads → is_word (thread_def program i).name ≡ true
thread_name_worded program i named lt = name_word (thread_def program i).name (named.threads i lt)

pub source_worded : (program : Program) (t : ThreadId) → AreNamed program → t.0 < length program.threads → is_line (source_words program t) ≡ true
source_worded program t named lt = line_from (codes "source") (drop 1 (source_words program t)) refl (thread_name_worded program t.0 named lt also tt)

pub pipe_worded : (program : Program) (p : PipeDef) → AreNamed program → IsNamed p.name → IsRightPipe program p → is_line (pipe_words program p) ≡ true
pipe_worded program p named own right =
    line_from (codes "pipe") (drop 1 (pipe_words program p)) refl
    (name_word p.name own also decimal_word p.places (omega (arith, right.places)) also refl also thread_name_worded program p.writer.0 named right.writer also refl also thread_name_worded program p.reader.0 named right.reader also tt)

start_worded : (due : Option ℕ) (period : ℕ) → ForSome due (λ d. d ≤ limits.TICKS) → period ≤ limits.TICKS → ArePrinted (start_words due period)
start_worded None period h lt = (refl also tt)
start_worded (Some due) period h lt = let small : due ≤ limits.TICKS = h due refl in (refl also decimal_word due (omega arith) also refl also decimal_word period (omega arith) also tt)

pub timer_worded : (program : Program) (t : TimerDef) → AreNamed program → IsNamed t.name → IsRightTimer program t → is_line (timer_words program t) ≡ true
timer_worded program t named own right =
    line_from (codes "timer") (drop 1 (timer_words program t)) refl (name_word t.name own also refl also thread_name_worded program t.thread.0 named right.thread also start_worded t.due t.period right.due right.period)

pub task_worded : (program : Program) (t : Task) → AreNamed program → IsNamed t.name → t.thread.0 < length program.threads → t.limit ≤ limits.TASK_LIMIT → is_line (task_words program t) ≡ true
task_worded program t named own lt le =
    line_from (codes "task") (drop 1 (task_words program t)) refl (name_word t.name own also refl also thread_name_worded program t.thread.0 named lt also refl also decimal_word t.limit (omega arith) also tt)

-- the operands of instructions
register_worded : (a : ℕ) → a < 16 → is_word (register_word a) ≡ true
register_worded a lt = digits_go_on a (omega arith)

label_worded : (i : ℕ) → i < 2 ^ 32 → is_word (label_name i) ≡ true
label_worded i lt = digits_go_on i (omega arith)

three_worded : (a b c : ℕ) → FitsWord a b c 0 → ArePrinted (register_word a ∷ register_word b ∷ register_word c ∷ [])
three_worded a b c fits = (register_worded a fits.a_fits also register_worded b fits.b_fits also register_worded c fits.c_fits also tt)

pub instr_worded : (program : Program) (t : Task) (instr : Instr) → AreNamed program → IsInstr instr → IsRightInstr program t instr → is_line (instr_words program instr) ≡ true
unfolding instr_words
instr_worded program t (Li a i) named fits right = line_from (codes "li") (drop 1 (instr_words program (Li a i))) refl (register_worded a fits.a_fits also decimal_word i (omega (arith, fits.i_fits)) also tt)
instr_worded program t (Ev a) named fits right = line_from (codes "ev") (drop 1 (instr_words program (Ev a))) refl (register_worded a fits.a_fits also tt)
instr_worded program t (Kind a) named fits right = line_from (codes "kind") (drop 1 (instr_words program (Kind a))) refl (register_worded a fits.a_fits also tt)
instr_worded program t (Num a) named fits right = line_from (codes "num") (drop 1 (instr_words program (Num a))) refl (register_worded a fits.a_fits also tt)
instr_worded program t (Now a) named fits right = line_from (codes "now") (drop 1 (instr_words program (Now a))) refl (register_worded a fits.a_fits also tt)
instr_worded program t (Out a) named fits right = line_from (codes "out") (drop 1 (instr_words program (Out a))) refl (register_worded a fits.a_fits also tt)
instr_worded program t (Mov a b) named fits right = line_from (codes "mov") (drop 1 (instr_words program (Mov a b))) refl (register_worded a fits.a_fits also register_worded b fits.b_fits also tt)
instr_worded program t (Ld a b) named fits right = line_from (codes "ld") (drop 1 (instr_words program (Ld a b))) refl (register_worded a fits.a_fits also register_worded b fits.b_fits also tt)
instr_worded program t (St a b) named fits right = line_from (codes "st") (drop 1 (instr_words program (St a b))) refl (register_worded a fits.a_fits also register_worded b fits.b_fits also tt)
instr_worded program t (Add a b c) named fits right = line_from (codes "add") (drop 1 (instr_words program (Add a b c))) refl (three_worded a b c fits)
instr_worded program t (Sub a b c) named fits right = line_from (codes "sub") (drop 1 (instr_words program (Sub a b c))) refl (three_worded a b c fits)
instr_worded program t (Mul a b c) named fits right = line_from (codes "mul") (drop 1 (instr_words program (Mul a b c))) refl (three_worded a b c fits)
instr_worded program t (And a b c) named fits right = line_from (codes "and") (drop 1 (instr_words program (And a b c))) refl (three_worded a b c fits)
instr_worded program t (Or a b c) named fits right = line_from (codes "or") (drop 1 (instr_words program (Or a b c))) refl (three_worded a b c fits)
instr_worded program t (Xor a b c) named fits right = line_from (codes "xor") (drop 1 (instr_words program (Xor a b c))) refl (three_worded a b c fits)
instr_worded program t (Shl a b c) named fits right = line_from (codes "shl") (drop 1 (instr_words program (Shl a b c))) refl (three_worded a b c fits)
instr_worded program t (Shr a b c) named fits right = line_from (codes "shr") (drop 1 (instr_words program (Shr a b c))) refl (three_worded a b c fits)
instr_worded program t (Divu a b c) named fits right = line_from (codes "divu") (drop 1 (instr_words program (Divu a b c))) refl (three_worded a b c fits)
instr_worded program t (Remu a b c) named fits right = line_from (codes "remu") (drop 1 (instr_words program (Remu a b c))) refl (three_worded a b c fits)
instr_worded program t (Ltu a b c) named fits right = line_from (codes "ltu") (drop 1 (instr_words program (Ltu a b c))) refl (three_worded a b c fits)
instr_worded program t (Eq a b c) named fits right = line_from (codes "eq") (drop 1 (instr_words program (Eq a b c))) refl (three_worded a b c fits)
instr_worded program t (Jmp i) named fits right = line_from (codes "jmp") (drop 1 (instr_words program (Jmp i))) refl (label_worded i fits.i_fits also tt)
instr_worded program t (Jz a i) named fits right = line_from (codes "jz") (drop 1 (instr_words program (Jz a i))) refl (register_worded a fits.a_fits also label_worded i fits.i_fits also tt)
instr_worded program t (Jnz a i) named fits right = line_from (codes "jnz") (drop 1 (instr_words program (Jnz a i))) refl (register_worded a fits.a_fits also label_worded i fits.i_fits also tt)
instr_worded program t (Send i a b) named fits right = line_from (codes "send") (drop 1 (instr_words program (Send i a b))) refl (name_word (pipe_def program i).name (named.pipes i right.0) also register_worded a fits.a_fits also register_worded b fits.b_fits also tt)
instr_worded program t (Arm i a b) named fits right = line_from (codes "arm") (drop 1 (instr_words program (Arm i a b))) refl (name_word (timer_def program i).name (named.timers i right.0) also register_worded a fits.a_fits also register_worded b fits.b_fits also tt)
instr_worded program t (Stop i) named fits right = line_from (codes "stop") (drop 1 (instr_words program (Stop i))) refl (name_word (timer_def program i).name (named.timers i right.0) also tt)
instr_worded program t (Next i) named fits right = line_from (codes "next") (drop 1 (instr_words program (Next i))) refl (name_word (task_def program i).name (named.tasks i right.0) also tt)
instr_worded program t Done named fits right = refl

-- the lines of a task
all_of : (xs ys : List (List Word)) → list_all is_line xs ≡ true → list_all is_line ys ≡ true → list_all is_line (xs ++ ys) ≡ true
all_of xs ys h k = list_all-append is_line xs ys ∙ and_from (list_all is_line xs) (list_all is_line ys) h k

pub one_line : (ws : List Word) → is_line ws ≡ true → list_all is_line (ws ∷ []) ≡ true
one_line ws h = and_from (is_line ws) true h refl

label_line_worded : (needed : Bool) (o : ℕ) → o < 2 ^ 64 → list_all is_line (label_lines needed o) ≡ true
label_line_worded true o lt = rw (list_all-append goes_on (decimal o) (58 ∷ []), digits_go_on o lt) refl
label_line_worded false o lt = refl

pub below_worded : (program : Program) (t : Task) (n : ℕ) → AreNamed program → ((o : ℕ) → o < n → IsInstr (instr_at t o)) → ((o : ℕ) → o < n → IsRightInstr program t (instr_at t o)) → n < 2 ^ 64
    → list_all is_line (lines_below program t n) ≡ true
below_worded program t zero named fits right lt = refl
below_worded program t (suc n) named fits right lt =
    all_of (lines_below program t n) (instr_lines program t n)
    (below_worded program t n named (λ o less. fits o (omega arith)) (λ o less. right o (omega arith)) (omega arith))
    (all_of (label_lines (is_target t.code n) n) (instr_words program (instr_at t n) ∷ []) (label_line_worded (is_target t.code n) n (omega arith))
    (one_line (instr_words program (instr_at t n)) (instr_worded program t (instr_at t n) named (fits n (omega arith)) (right n (omega arith)))))

pub task_lines_worded : (program : Program) (t : Task) → is_line (task_words program t) ≡ true → list_all is_line (lines_below program t (length t.code)) ≡ true → list_all is_line (task_lines program t) ≡ true
task_lines_worded program t first code =
    and_from (is_line (task_words program t)) _ first (all_of (lines_below program t (length t.code)) ((codes "end" ∷ []) ∷ []) code refl)

all_worded : {X : Type 0} (lines : X → List (List Word)) (xs : List X) → AllByRecursion (λ x. list_all is_line (lines x) ≡ true) xs → list_all is_line (flat_map lines xs) ≡ true
all_worded lines [] all = refl
all_worded lines (x ∷ xs) all = all_of (lines x) (flat_map lines xs) all.0 (all_worded lines xs all.1)

-- the lines of all items
pub each_worded : {X : Type 0} (lines : X → List (List Word)) (xs : List X) (d : X) → ((i : ℕ) → i < length xs → list_all is_line (lines (get_or xs i d)) ≡ true) → list_all is_line (flat_map lines xs) ≡ true
each_worded lines xs d h = all_worded lines xs (by_number (λ (x : _). list_all is_line (lines x) ≡ true) xs d h)
