-- How the first image grows, word by word.
use Rattle.ink_layout.proofs.Common.{◌≡◌, ℕ, ◌+◌, ◌*◌, ◌/◌, ◌%◌, ◌<◌, ◌&&◌, cond, length, refl, ap, arith, ◌==◌, nat_tests, Program, word_of_instr, thread_def, task_def, instr_at, Place, Code, Page, Slot, store, IsOnBoard, timed_word, comes_before, code_until, slots_until, with_blocks, put_word}
use Rattle.push_core.specs.Slots.{empty_word}

-- one more place of a row
rows_step : (f : ℕ → ℕ → ℕ) (x n y m : ℕ) →
    cond ((x == y) && (n == m)) (f x n) (cond (comes_before x n y m) (f y m) 0) ≡ cond (comes_before x (n + 1) y m) (f y m) 0
rows_step f x n y m = grind (arith, nat_tests)

-- a whole row
rows_end : (f : ℕ → ℕ → ℕ) (x len y m : ℕ) → (y ≡ x → m < len) →
    cond (comes_before x len y m) (f y m) 0 ≡ cond (comes_before (x + 1) 0 y m) (f y m) 0
rows_end f x len y m within = grind (arith, nat_tests)

-- all rows, and none
rows_all : (f : ℕ → ℕ → ℕ) (x y m : ℕ) → y < x → cond (comes_before x 0 y m) (f y m) 0 ≡ f y m
rows_all f x y m lt = grind (arith, nat_tests)

rows_none : (f : ℕ → ℕ → ℕ) (y m : ℕ) → 0 ≡ cond (comes_before 0 0 y m) (f y m) 0
rows_none f y m = grind (arith, nat_tests)

abbrev code_word : Program → ℕ → ℕ → ℕ
code_word program x n = word_of_instr (instr_at (task_def program x) n)

pub code_next : (program : Program) (x n : ℕ) (q : Place) → store (code_until program x n) (Code x n) (code_word program x n) q ≡ code_until program x (n + 1) q
code_next program x n (Code y m) = rows_step (code_word program) x n y m
code_next program x n _ = refl

pub code_end : (program : Program) (x : ℕ) (q : Place) → IsOnBoard program q →
    code_until program x (length (task_def program x).code) q ≡ code_until program (x + 1) 0 q
code_end program x (Code y m) h =
    rows_end (code_word program) x (length (task_def program x).code) y m
    (λ e. let same : length (task_def program y).code ≡ length (task_def program x).code = ap (λ z. length (task_def program z).code) e in omega (arith, h.1))
code_end program x _ h = refl

pub code_none : (program : Program) (q : Place) → 0 ≡ code_until program 0 0 q
code_none program (Code y m) = rows_none (code_word program) y m
code_none program _ = refl

abbrev slot_word : ℕ → ℕ → ℕ
slot_word t n = empty_word n

pub slots_none : (program : Program) (q : Place) → IsOnBoard program q → code_until program (length program.tasks) 0 q ≡ slots_until program 0 0 q
slots_none program (Code y m) h = rows_all (code_word program) (length program.tasks) y m h.0
slots_none program (Slot u k) h = rows_none slot_word u k
slots_none program _ h = refl

pub slots_next : (program : Program) (t n : ℕ) (q : Place) → store (slots_until program t n) (Slot t n) (empty_word n) q ≡ slots_until program t (n + 1) q
slots_next program t n (Slot u m) = rows_step slot_word t n u m
slots_next program t n _ = refl

pub slots_end : (program : Program) (t : ℕ) (q : Place) → IsOnBoard program q →
    slots_until program t (thread_def program t).queue q ≡ slots_until program (t + 1) 0 q
slots_end program t (Slot u m) h =
    rows_end slot_word t (thread_def program t).queue u m
    (λ e. let same : (thread_def program u).queue ≡ (thread_def program t).queue = ap (λ z. (thread_def program z).queue) e in omega (arith, h.1))
slots_end program t _ h = refl

-- before the first timer
timed_none : (program : Program) (t w : ℕ) → 0 ≡ timed_word program 0 t w
timed_none program t w = grind (arith, nat_tests)

pub blocks_none : (program : Program) (q : Place) → IsOnBoard program q → slots_until program (length program.threads) 0 q ≡ with_blocks program (timed_word program 0) q
blocks_none program (Slot u m) h = rows_all slot_word (length program.threads) u m h.0
blocks_none program (Page u p b k) h = timed_none program u (8 * p + k)
blocks_none program _ h = refl

-- both copies of a word
both_copies : (block : ℕ → ℕ → ℕ) (t w value u p b k : ℕ) → b < 2 → k < 8 →
    cond ((t == u) && ((w / 8 == p) && ((1 == b) && (w % 8 == k)))) value (cond ((t == u) && ((w / 8 == p) && ((0 == b) && (w % 8 == k)))) value (block u (8 * p + k)))
    ≡ put_word block t w value u (8 * p + k)
both_copies block t w value u p b k two eight = grind (arith, nat_tests)

pub blocks_put : (program : Program) (block : ℕ → ℕ → ℕ) (t w value : ℕ) (q : Place) → IsOnBoard program q →
    store (store (with_blocks program block) (Page t (w / 8) 0 (w % 8)) value) (Page t (w / 8) 1 (w % 8)) value q ≡ with_blocks program (put_word block t w value) q
blocks_put program block t w value (Page u p b k) h = both_copies block t w value u p b k h.2 h.3
blocks_put program block t w value _ h = refl
