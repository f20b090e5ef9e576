-- The words of the board while the first image is made.
use Rattle.ink_layout.proofs.Common.{◌≡◌, ℕ, ◌+◌, ◌-◌, ◌*◌, ◌/◌, ◌%◌, ◌<◌, ◌≤◌, ◌&&◌, true, false, cond, List, length, get_or, refl, ap, ◌∙◌, arith, inl, inr, length-set, ◌==◌, nat_lt, nat_le, replicate, cases_lt, cases_eq, nat_tests, get_or-replicate, get_or_past, length-replicate, Program, timer_def, Layout, performed, zeros, Place, Page, store, due_word, is_valid, address, memory_of, store_word, shape_of, words_of, IsOnBoard, layout_address, IsLayout, timed_word, first_memory, Holds, IsFirstImage, code_until, with_blocks, put_word}
use Rattle.fram_words.specs.declared.access.Access.TheVariants as fram
use Rattle.fram_words.specs.Header as header
use Rattle.ink_layout.proofs.Regions.{valid, below}
use Rattle.ink_layout.proofs.Stages.{code_none}

-- equal memories on the board
pub holds_as : (program : Program) (words : List ℕ) (f g : Place → ℕ) → Holds program words f → ((q : Place) → IsOnBoard program q → f q ≡ g q) → Holds program words g
holds_as program words f g h same = record { count = h.count; each = λ q on. h.each q on ∙ same q on }

zero_at : (n k : ℕ) → let none : ℕ = 0 in get_or (replicate n none) k none ≡ none
zero_at n k =
    elim (cases_lt k n) [
      | inl lt ↦ get_or-replicate n k 0 0 lt
      | inr past ↦ get_or_past (zeros n) k 0 (let e : length (zeros n) ≡ n = length-replicate n 0 in omega arith)
    ]

pub holds_zeros : (program : Program) (n : ℕ) → n ≡ words_of (shape_of program) → Holds program (zeros n) (code_until program 0 0)
holds_zeros program n e =
    record {
      count = length-replicate n 0 ∙ e;
      each = λ q on. zero_there (is_valid (shape_of program) q) (address (shape_of program) q) ∙ code_none program q;
    }
  where
    zero_there : (b : Rattle.std.proofs.Common.Bool) (a : ℕ) → cond b (get_or (zeros n) a 0) 0 ≡ 0
    zero_there true a = zero_at n a
    zero_there false a = refl

-- the address of a place on the board
pub within_words : (program : Program) (layout : Layout) (words : List ℕ) (p : Place) (addr : ℕ) → IsLayout program layout → length words ≡ words_of (shape_of program) →
    IsOnBoard program p → addr ≡ layout_address layout p → addr < length words
within_words program layout words p addr is count on e =
    let a : layout_address layout p ≡ address (shape_of program) p = is.addresses p on in
    let b : address (shape_of program) p < words_of (shape_of program) = below program p on in
    omega arith

-- a store at that address is a store at the place
pub holds_store : (program : Program) (layout : Layout) (words : List ℕ) (f : Place → ℕ) (p : Place) (addr v : ℕ) → IsLayout program layout → Holds program words f →
    IsOnBoard program p → addr ≡ layout_address layout p → Holds program (performed (fram.Store addr v) words) (store f p v)
holds_store program layout words f p addr v is h on e =
    let a : addr ≡ address (shape_of program) p = e ∙ is.addresses p on in
    let lt : address (shape_of program) p < length words = let b = below program p on in omega (arith, h.count) in
    record {
      count = length-set words addr v ∙ h.count;
      each = λ q on_q.
          ap (λ n. memory_of (shape_of program) (performed (fram.Store n v) words) q) a
          ∙ (ap (λ (m : Place → ℕ). m q) (store_word (shape_of program) words p v (valid program p on) lt)
          ∙ ap (λ w. cond (Rattle.fram_words.specs.Places.same_place p q) v w) (h.each q on_q));
    }

-- once the word is stored, the next memory
pub holds_put : (program : Program) (after : List ℕ) (f g : Place → ℕ) (p : Place) (word v : ℕ) → Holds program after (store f p word) → word ≡ v →
    ((q : Place) → IsOnBoard program q → store f p v q ≡ g q) → Holds program after g
holds_put program after f g p word v h value same = holds_as program after (store f p word) g h (λ q on. ap (λ w. store f p w q) value ∙ same q on)

-- the two words of a timer
timed_here : (j thread due period u w other : ℕ) → 26 ≤ w → (w - 26) / 2 ≡ j →
    cond ((u == thread) && (w == header.period j)) period (cond ((u == thread) && (w == header.due j)) due (cond (nat_le 26 w && (nat_lt j j && (thread == u))) other 0))
    ≡ cond (nat_le 26 w && (nat_lt j (j + 1) && (thread == u))) (cond (w % 2 == 0) due period) 0
timed_here j thread due period u w other high here = grind (arith, nat_tests)

-- one more timer
pub timed_next : (program : Program) (j t due period u w : ℕ) → t ≡ (timer_def program j).thread.0 → due ≡ due_word (timer_def program j).due → period ≡ (timer_def program j).period →
    put_word (put_word (timed_word program j) t (header.due j) due) t (header.period j) period u w ≡ timed_word program (j + 1) u w
timed_next program j t due period u w t_is due_is period_is =
    elim (cases_lt w 26) [
      | inl low ↦ grind (arith, nat_tests)
      | inr high ↦ elim (cases_eq ((w - 26) / 2) j) [
        | inl here ↦ rw (here, t_is, due_is, period_is) (timed_here j (timer_def program j).thread.0 (due_word (timer_def program j).due) (timer_def program j).period u w _ high here)
        | inr there ↦ grind (arith, nat_tests)
      ]
    ]

pub blocks_next : (program : Program) (j t due_at period_at due period : ℕ) → due_at ≡ header.due j → period_at ≡ header.period j →
    t ≡ (timer_def program j).thread.0 → due ≡ due_word (timer_def program j).due → period ≡ (timer_def program j).period →
    (q : Place) → IsOnBoard program q →
    with_blocks program (put_word (put_word (timed_word program j) t due_at due) t period_at period) q ≡ with_blocks program (timed_word program (j + 1)) q
blocks_next program j t due_at period_at due period first second t_is due_is period_is (Page u p b k) h =
    rw (first, second) (timed_next program j t due period u (8 * p + k) t_is due_is period_is)
blocks_next program j t due_at period_at due period first second t_is due_is period_is _ h = refl

-- once all timers are written
pub holds_first : (program : Program) (words : List ℕ) → Holds program words (with_blocks program (timed_word program (length program.timers))) → IsFirstImage program words
holds_first program words h = holds_as program words (with_blocks program (timed_word program (length program.timers))) (first_memory program) h same
  where
    same : (q : Place) → IsOnBoard program q → with_blocks program (timed_word program (length program.timers)) q ≡ first_memory program q
    same (Page u p b k) on = refl
    same _ on = refl
