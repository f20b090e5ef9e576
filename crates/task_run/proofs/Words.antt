-- Writes and reads of the words of a thread's block.
use Rattle.task_run.proofs.Common.{◌≡◌, ℕ, ◌+◌, ◌*◌, ◌-◌, ◌<◌, ◌≤◌, List, ◌++◌, length, get_or, set, arith, refl, ap, ◌∙◌, sym, inl, inr, eq-eqb, ne_eqb, get_or-set_same, get_or-set_other, get_or-append-add, Some, cases_eq, set-append_right, Output, put, Saved, Ending, total_word, changed, with_due, rested, finish, total_of, with_total}
use Rattle.ink_base.specs.declared.limits.TheConstants as limits
use Rattle.never_cut.specs.Stands.{thread_words}
use Rattle.fram_words.specs.Header as header
use Rattle.never_cut.proofs.Blocks.{below_eight, header_list}
use Rattle.task_run.specs.declared.ending.Ending.TheVariants as endings

pub put_set : (xs : List ℕ) (i v w : ℕ) → i < length xs → put (λ k. get_or xs k 0) i v w ≡ get_or (set xs i v) w 0
put_set xs i v w lt =
    elim (cases_eq w i) [
      | inl e ↦ rw (eq-eqb w i e) (sym (ap (λ k. get_or (set xs i v) k 0) e ∙ get_or-set_same xs i v 0 lt))
      | inr ne ↦ rw (ne_eqb w i ne) (sym (get_or-set_other xs i w v 0 ne))
    ]

pub words-length : (y : Saved) (s o v : ℕ) → length (thread_words y s o v) ≡ 48 + length y.state
unfolding thread_words
words-length y s o v = omega arith

-- the writes to the header
pub words-stamp : (y : Saved) (s o v n w : ℕ) → put (λ k. get_or (thread_words y s o v) k 0) 0 n w ≡ get_or (thread_words y n o v) w 0
unfolding thread_words
words-stamp y s o v n w = put_set (thread_words y s o v) 0 n w (omega (arith, words-length y s o v))

pub words-rested : (y : Saved) (s o v w : ℕ) → put (λ k. get_or (thread_words y s o v) k 0) 1 0 w ≡ get_or (thread_words (rested y) s o v) w 0
unfolding thread_words
words-rested y s o v w = put_set (thread_words y s o v) 1 0 w (omega (arith, words-length y s o v))

pub words-next : (y : Saved) (s o v task w : ℕ) →
    put (λ k. get_or (thread_words y s o v) k 0) 1 (task + 1) w ≡ get_or (thread_words (record y { running = Some (record { 0 = task }) }) s o v) w 0
unfolding thread_words
words-next y s o v task w = put_set (thread_words y s o v) 1 (task + 1) w (omega (arith, words-length y s o v))

pub words-first : (y : Saved) (s o v n w : ℕ) → put (λ k. get_or (thread_words y s o v) k 0) 2 n w ≡ get_or (thread_words (record y { first = n }) s o v) w 0
unfolding thread_words
words-first y s o v n w = put_set (thread_words y s o v) 2 n w (omega (arith, words-length y s o v))

pub words-origin : (y : Saved) (s o v n w : ℕ) → put (λ k. get_or (thread_words y s o v) k 0) 3 n w ≡ get_or (thread_words y s n v) w 0
unfolding thread_words
words-origin y s o v n w = put_set (thread_words y s o v) 3 n w (omega (arith, words-length y s o v))

pub words-value : (y : Saved) (s o v n w : ℕ) → put (λ k. get_or (thread_words y s o v) k 0) 4 n w ≡ get_or (thread_words y s o n) w 0
unfolding thread_words
words-value y s o v n w = put_set (thread_words y s o v) 4 n w (omega (arith, words-length y s o v))

pub words-finish : (y : Saved) (s o v w : ℕ) → put (λ k. get_or (thread_words y s o v) k 0) 5 (y.ended + 1) w ≡ get_or (thread_words (finish y) s o v) w 0
unfolding thread_words
words-finish y s o v w = put_set (thread_words y s o v) 5 (y.ended + 1) w (omega (arith, words-length y s o v))

pub words-total : (ending : Ending) (y : Saved) (s o v n w : ℕ) →
    put (λ k. get_or (thread_words y s o v) k 0) (total_word ending) n w ≡ get_or (thread_words (with_total ending n y) s o v) w 0
unfolding thread_words
words-total (endings.Next task) y s o v n w = put_set (thread_words y s o v) 6 n w (omega (arith, words-length y s o v))
words-total endings.Done y s o v n w = put_set (thread_words y s o v) 6 n w (omega (arith, words-length y s o v))
words-total endings.Trapped y s o v n w = put_set (thread_words y s o v) 7 n w (omega (arith, words-length y s o v))
words-total endings.Expired y s o v n w = put_set (thread_words y s o v) 8 n w (omega (arith, words-length y s o v))

pub words-outputs : (y : Saved) (s o v : ℕ) (outputs : List Output) (w : ℕ) →
    put (λ k. get_or (thread_words y s o v) k 0) 9 (length outputs) w ≡ get_or (thread_words (record y { outputs = outputs }) s o v) w 0
unfolding thread_words
words-outputs y s o v outputs w = put_set (thread_words y s o v) 9 (length outputs) w (omega (arith, words-length y s o v))

-- to the counts of items, and to timers and their periods
set-written : (y : Saved) (s o v n q : ℕ) → q < limits.PIPES → set (thread_words y s o v) (10 + q) n ≡ thread_words (record y { written = changed y.written q n }) s o v
unfolding thread_words
set-written y s o v n =
    below_eight (λ q. set (thread_words y s o v) (10 + q) n ≡ thread_words (record y { written = changed y.written q n }) s o v) refl refl refl refl refl refl refl refl

pub words-written : (y : Saved) (s o v q n w : ℕ) → q < limits.PIPES →
    put (λ k. get_or (thread_words y s o v) k 0) (10 + q) n w ≡ get_or (thread_words (record y { written = changed y.written q n }) s o v) w 0
words-written y s o v q n w lt =
    put_set (thread_words y s o v) (10 + q) n w (omega (arith, words-length y s o v)) ∙ ap (λ l. get_or l w 0) (set-written y s o v n q lt)

set-taken : (y : Saved) (s o v n q : ℕ) → q < limits.PIPES → set (thread_words y s o v) (18 + q) n ≡ thread_words (record y { taken = changed y.taken q n }) s o v
unfolding thread_words
set-taken y s o v n =
    below_eight (λ q. set (thread_words y s o v) (18 + q) n ≡ thread_words (record y { taken = changed y.taken q n }) s o v) refl refl refl refl refl refl refl refl

pub words-taken : (y : Saved) (s o v q n w : ℕ) → q < limits.PIPES →
    put (λ k. get_or (thread_words y s o v) k 0) (18 + q) n w ≡ get_or (thread_words (record y { taken = changed y.taken q n }) s o v) w 0
words-taken y s o v q n w lt =
    put_set (thread_words y s o v) (18 + q) n w (omega (arith, words-length y s o v)) ∙ ap (λ l. get_or l w 0) (set-taken y s o v n q lt)

set-due : (y : Saved) (s o v n j : ℕ) → j < limits.TIMERS → set (thread_words y s o v) (26 + 2 * j) n ≡ thread_words (with_due y j n) s o v
unfolding thread_words
set-due y s o v n =
    below_eight (λ j. set (thread_words y s o v) (26 + 2 * j) n ≡ thread_words (with_due y j n) s o v) refl refl refl refl refl refl refl refl

pub words-due : (y : Saved) (s o v j n w : ℕ) → j < limits.TIMERS →
    put (λ k. get_or (thread_words y s o v) k 0) (26 + 2 * j) n w ≡ get_or (thread_words (with_due y j n) s o v) w 0
words-due y s o v j n w lt =
    put_set (thread_words y s o v) (26 + 2 * j) n w (omega (arith, words-length y s o v)) ∙ ap (λ l. get_or l w 0) (set-due y s o v n j lt)

set-period : (y : Saved) (s o v n j : ℕ) → j < limits.TIMERS → set (thread_words y s o v) (27 + 2 * j) n ≡ thread_words (record y { period = changed y.period j n }) s o v
unfolding thread_words
set-period y s o v n =
    below_eight (λ j. set (thread_words y s o v) (27 + 2 * j) n ≡ thread_words (record y { period = changed y.period j n }) s o v) refl refl refl refl refl refl refl refl

pub words-period : (y : Saved) (s o v j n w : ℕ) → j < limits.TIMERS →
    put (λ k. get_or (thread_words y s o v) k 0) (27 + 2 * j) n w ≡ get_or (thread_words (record y { period = changed y.period j n }) s o v) w 0
words-period y s o v j n w lt =
    put_set (thread_words y s o v) (27 + 2 * j) n w (omega (arith, words-length y s o v)) ∙ ap (λ l. get_or l w 0) (set-period y s o v n j lt)

-- and to the state
pub words-state : (y : Saved) (s o v i n w : ℕ) → i < length y.state →
    put (λ k. get_or (thread_words y s o v) k 0) (48 + i) n w ≡ get_or (thread_words (record y { state = set y.state i n }) s o v) w 0
unfolding thread_words
words-state y s o v i n w lt =
    let at : 48 + i - 48 ≡ i = omega arith in
    put_set (thread_words y s o v) (48 + i) n w (omega (arith, words-length y s o v))
    ∙ ap (λ l. get_or l w 0) (set-append_right (header_list y s o v) y.state 48 (48 + i) n refl (omega arith) ∙ ap (λ k. header_list y s o v ++ set y.state k n) at)

-- the reads
pub words-of_outputs : (y : Saved) (s o v : ℕ) → get_or (thread_words y s o v) 9 0 ≡ length y.outputs
unfolding thread_words
words-of_outputs y s o v = refl

pub words-of_total : (ending : Ending) (y : Saved) (s o v : ℕ) → get_or (thread_words y s o v) (total_word ending) 0 ≡ total_of ending y
unfolding thread_words
words-of_total (endings.Next task) y s o v = refl
words-of_total endings.Done y s o v = refl
words-of_total endings.Trapped y s o v = refl
words-of_total endings.Expired y s o v = refl

pub words-of_stamp : (y : Saved) (s o v : ℕ) → get_or (thread_words y s o v) 0 0 ≡ s
unfolding thread_words
words-of_stamp y s o v = refl

pub words-of_state : (y : Saved) (s o v i : ℕ) → get_or (thread_words y s o v) (48 + i) 0 ≡ get_or y.state i 0
unfolding thread_words
words-of_state y s o v i = get_or-append-add (header_list y s o v) y.state i 0

pub words-of_written : (y : Saved) (s o v q : ℕ) → q < limits.PIPES → get_or (thread_words y s o v) (10 + q) 0 ≡ y.written q
unfolding thread_words
words-of_written y s o v = below_eight (λ q. get_or (thread_words y s o v) (10 + q) 0 ≡ y.written q) refl refl refl refl refl refl refl refl

pub words-of_taken : (y : Saved) (s o v q : ℕ) → q < limits.PIPES → get_or (thread_words y s o v) (18 + q) 0 ≡ y.taken q
unfolding thread_words
words-of_taken y s o v = below_eight (λ q. get_or (thread_words y s o v) (18 + q) 0 ≡ y.taken q) refl refl refl refl refl refl refl refl

pub words-of_due : (y : Saved) (s o v j : ℕ) → j < limits.TIMERS → get_or (thread_words y s o v) (26 + 2 * j) 0 ≡ y.due j
unfolding thread_words
words-of_due y s o v = below_eight (λ j. get_or (thread_words y s o v) (26 + 2 * j) 0 ≡ y.due j) refl refl refl refl refl refl refl refl

pub words-of_period : (y : Saved) (s o v j : ℕ) → j < limits.TIMERS → get_or (thread_words y s o v) (27 + 2 * j) 0 ≡ y.period j
unfolding thread_words
words-of_period y s o v = below_eight (λ j. get_or (thread_words y s o v) (27 + 2 * j) 0 ≡ y.period j) refl refl refl refl refl refl refl refl

-- the header words of totals
pub total_low : (ending : Ending) → header.served ≤ total_word ending
total_low (endings.Next task) = omega arith
total_low endings.Done = omega arith
total_low endings.Trapped = omega arith
total_low endings.Expired = omega arith

pub total_high : (ending : Ending) → total_word ending ≤ header.expired
total_high (endings.Next task) = omega arith
total_high endings.Done = omega arith
total_high endings.Trapped = omega arith
total_high endings.Expired = omega arith
