-- The first image stands for the state at the start.
use Rattle.never_cut.proofs.Common.{◌≡◌, inl, inr, ℕ, zero, suc, ◌+◌, ◌-◌, ◌*◌, ◌/◌, ◌%◌, ◌<◌, ◌≤◌, ◌==◌, ◌&&◌, ◌++◌, Bool, true, false, cond, List, [], ◌∷◌, length, map, replicate, get_or, slice_index, Some, None, refl, sym, ap, ◌∙◌, subst, arith, nat_lt, nat_le, if◌then◌else◌, le-ltb, cases_lt, length-replicate, get_or-replicate, get_or_past, All-nil, Output, Place, Code, Page, due_word, place_in, Program, ThreadDef, thread_def, no_thread_def, timer_def, no_timer_def, pipe_def, no_pipe_def, IsAccepted, shape_of, pages_of, thread_shape, ThreadModel, PipeModel, TimerModel, thread_of, pipe_of, timer_of, open_model, open_thread, open_pipe, open_timer, no_pipe, Saved, saved, flag, written_word, taken_word, timer_word, period_word, StandsThread, StandsPrivate}
use Rattle.fram_words.specs.Places.{Commit}
use Rattle.never_cut.specs.Stands.{thread_words}
use Rattle.std.specs.Int.{bit_at}
use Rattle.ink_base.specs.declared.limits.TheConstants as limits
use Rattle.std.proofs.Math.ListN.{get_or-map}
use Rattle.std.proofs.lemmas.Nat.Bits.{bit_at-lt}
use Rattle.fram_words.specs.Shape.{is_valid, memory_of, address, regions, region, has_indices, thread_regions, queue_regions}
use Rattle.ink_layout.specs.Image.{IsFirstImage, is_timer_of, timed_word}
use Rattle.ink_layout.specs.Image as image
use Rattle.ink_layout.proofs.Regions.{at_right}
use Rattle.never_cut.proofs.Privates.{no_pages}

-- the words of a thread's pages
pages_at : (defs : List ThreadDef) (rest : List ℕ) (t : ℕ) → t < length defs →
    get_or (thread_regions (map thread_shape defs) ++ rest) (suc (3 * t)) 0 ≡ 16 * pages_of (get_or defs t no_thread_def)
pages_at [] rest t lt = absurd (omega arith)
pages_at (d ∷ defs) rest zero lt = refl
pages_at (d ∷ defs) rest (suc t) lt =
    let e : suc (3 * suc t) ≡ suc (suc (suc (suc (3 * t)))) = omega arith in
    subst (λ n. get_or (thread_regions (map thread_shape (d ∷ defs)) ++ rest) n 0 ≡ 16 * pages_of (get_or defs t no_thread_def)) (sym e) (pages_at defs rest t (omega arith))

-- two tests fail where the second does
pub false_second : (a c : Bool) → c ≡ false → (a && c) ≡ false
false_second true c is = is
false_second false c is = refl

-- a page that the thread doesn't have is none of the board's words
no_page : (program : Program) (t p b k : ℕ) → t < length program.threads → pages_of (thread_def program t) ≤ p → is_valid (shape_of program) (Page t p b k) ≡ false
no_page program t p b k known past =
    let behind : List ℕ = (shape_of program).pipes ++ (queue_regions (shape_of program).queues ++ (length program.sources ∷ 1 ∷ length program.sources ∷ [])) in
    let size : slice_index (regions (shape_of program)) (region (shape_of program) (Page t p b k)) ≡ 16 * pages_of (thread_def program t) =
    at_right (shape_of program).tasks (thread_regions (shape_of program).threads ++ behind) (suc (3 * t)) (region (shape_of program) (Page t p b k)) (omega arith)
    ∙ pages_at program.threads behind t known in
    false_second (has_indices (shape_of program) (Page t p b k)) _ (le-ltb _ _ (omega (arith, size)))

-- nothing stands at a place that the board doesn't have
pub nothing_at : (program : Program) (words : List ℕ) (p : Place) → is_valid (shape_of program) p ≡ false → memory_of (shape_of program) words p ≡ 0
nothing_at program words p past = ap (λ (b : Bool). cond b (slice_index words (address (shape_of program) p)) 0) past

-- no word behind the header's timers is a timer's
past_timers : (program : Program) (t w : ℕ) → length program.timers ≤ limits.TIMERS → 42 ≤ w → timed_word program (length program.timers) t w ≡ 0
past_timers program t w few past =
    let j : ℕ = (w - 26) / 2 in
    let none : nat_lt j (length program.timers) ≡ false = le-ltb _ _ (omega arith) in
    ap (λ (b : Bool). if nat_le 26 w && (b && ((timer_def program j).thread.0 == t)) then image.timer_word (timer_def program j) (w % 2 == 0) else 0) none
    ∙ never (nat_le 26 w) (image.timer_word (timer_def program j) (w % 2 == 0))
  where
    never : (b : Bool) (v : ℕ) → (if b && false then v else 0) ≡ 0
    never true v = refl
    never false v = refl

-- each word of a thread's pages is that of the first image, whichever copy
page_word : (program : Program) (words : List ℕ) (t mask w : ℕ) → length program.timers ≤ limits.TIMERS → IsFirstImage program words → t < length program.threads →
    memory_of (shape_of program) words (place_in t mask w) ≡ timed_word program (length program.timers) t w
page_word program words t mask w few first known =
    elim (cases_lt (w / 8) (pages_of (thread_def program t))) [
      | inl lt ↦ first.each (place_in t mask w) (known, lt, omega (arith, bit_at-lt mask (w / 8)), omega arith)
          ∙ ap (timed_word program (length program.timers) t) (let e : 8 * (w / 8) + w % 8 ≡ w = omega arith in e)
      | inr past ↦ nothing_at program words (place_in t mask w) (no_page program t (w / 8) (bit_at mask (w / 8)) (w % 8) known past)
          ∙ sym (past_timers program t w few (omega arith))
    ]

-- the first so many values of a function, and a list behind them
listed : (ℕ → ℕ) → ℕ → ℕ → List ℕ → List ℕ
listed f from zero xs = xs
listed f from (suc n) xs = f from ∷ listed f (suc from) n xs

at_listed : (f : ℕ → ℕ) (from n : ℕ) (xs : List ℕ) (w v : ℕ) → w < n → v ≡ from + w → get_or (listed f from n xs) w 0 ≡ f v
unfolding listed
at_listed f from zero xs w v lt e = absurd (omega arith)
at_listed f from (suc n) xs zero v lt e = ap f (omega arith)
at_listed f from (suc n) xs (suc w) v lt e = at_listed f (suc from) n xs w v (omega arith) (omega arith)

past_listed : (f : ℕ → ℕ) (from n : ℕ) (xs : List ℕ) (w : ℕ) → n ≤ w → get_or (listed f from n xs) w 0 ≡ get_or xs (w - n) 0
unfolding listed
past_listed f from zero xs w le = ap (λ i. get_or xs i 0) (omega arith)
past_listed f from (suc n) xs zero le = absurd (omega arith)
past_listed f from (suc n) xs (suc w) le = past_listed f (suc from) n xs w (omega arith) ∙ ap (λ i. get_or xs i 0) (omega arith)

state_zero : (n w : ℕ) → ◌≡◌ {A = ℕ} (get_or (replicate n 0) w 0) 0
state_zero n w =
    elim (cases_lt w n) [
      | inl lt ↦ get_or-replicate n w 0 0 lt
      | inr past ↦ get_or_past (replicate n 0) w 0 (let z : ℕ = 0 in let e : length (replicate n z) ≡ n = length-replicate n z in omega (arith, e))
    ]

-- the words behind the header's timers are zero
rest_zero : (n w : ℕ) → ◌≡◌ {A = ℕ} (get_or (0 ∷ 0 ∷ 0 ∷ 0 ∷ 0 ∷ 0 ∷ replicate n 0) w 0) 0
unfolding listed
rest_zero n w =
    elim (cases_lt w 6) [
      | inl lt ↦ at_listed (λ i. 0) 0 6 (replicate n 0) w w lt (omega arith)
      | inr past ↦ past_listed (λ i. 0) 0 6 (replicate n 0) w past ∙ state_zero n (w - 6)
    ]

-- what the words of a thread say at the start
open_saved : Program → ℕ → Saved
open_saved program t = record {
  state = replicate (thread_def program t).state 0;
  running = None;
  first = 0;
  ended = 0;
  served = 0;
  trapped = 0;
  expired = 0;
  outputs = [];
  written = λ q. 0;
  taken = λ q. 0;
  due = λ j. if is_timer_of program (length program.timers) t j then due_word (timer_def program j).due else 0;
  period = λ j. if is_timer_of program (length program.timers) t j then (timer_def program j).period else 0;
}

open_words : (program : Program) (t w : ℕ) → length program.timers ≤ limits.TIMERS → get_or (thread_words (open_saved program t) 0 0 0) w 0 ≡ timed_word program (length program.timers) t w
unfolding thread_words open_saved listed
open_words program t w few =
    let f : ℕ → ℕ = timed_word program (length program.timers) t in
    let n : ℕ = (thread_def program t).state in
    elim (cases_lt w 42) [
      | inl lt ↦ at_listed f 0 42 (0 ∷ 0 ∷ 0 ∷ 0 ∷ 0 ∷ 0 ∷ replicate n 0) w w lt (omega arith)
      | inr past ↦ past_listed f 0 42 (0 ∷ 0 ∷ 0 ∷ 0 ∷ 0 ∷ 0 ∷ replicate n 0) w past ∙ (rest_zero n (w - 42) ∙ sym (past_timers program t w few past))
    ]

-- threads, pipes and timers of the state at the start
open_thread_at : (program : Program) (t : ℕ) → thread_of (open_model program) t ≡ open_thread (thread_def program t)
open_thread_at program t = get_or-map open_thread program.threads t no_thread_def

open_pipe_at : (program : Program) (q : ℕ) → pipe_of (open_model program) q ≡ no_pipe
open_pipe_at program q = get_or-map open_pipe program.pipes q no_pipe_def

open_timer_at : (program : Program) (j : ℕ) → timer_of (open_model program) j ≡ open_timer (timer_def program j)
open_timer_at program j = get_or-map open_timer program.timers j no_timer_def

-- what a pipe has sent and taken is zero at the start, whose thread it may be
zero_either : (b : Bool) → ◌≡◌ {A = ℕ} (if b then 0 else 0) 0
zero_either true = refl
zero_either false = refl

none_written : (program : Program) (t q : ℕ) → written_word program (open_model program) t q ≡ 0
none_written program t q =
    let own : Bool = nat_lt q (length program.pipes) && ((pipe_def program q).writer.0 == t) in
    ap (λ (p : PipeModel). if own then p.taken + length p.items else 0) (open_pipe_at program q) ∙ zero_either own

none_taken : (program : Program) (t q : ℕ) → taken_word program (open_model program) t q ≡ 0
none_taken program t q =
    let own : Bool = nat_lt q (length program.pipes) && ((pipe_def program q).reader.0 == t) in
    ap (λ (p : PipeModel). if own then p.taken else 0) (open_pipe_at program q) ∙ zero_either own

open_due : (program : Program) (t j : ℕ) →
    timer_word program (open_model program) t j ≡ (if is_timer_of program (length program.timers) t j then due_word (timer_def program j).due else 0)
open_due program t j =
    ap (λ (x : TimerModel). if is_timer_of program (length program.timers) t j then due_word x.due else 0) (open_timer_at program j)

open_period : (program : Program) (t j : ℕ) →
    period_word program (open_model program) t j ≡ (if is_timer_of program (length program.timers) t j then (timer_def program j).period else 0)
open_period program t j = ap (λ (x : TimerModel). if is_timer_of program (length program.timers) t j then x.period else 0) (open_timer_at program j)

saved_open : (program : Program) (t : ℕ) → saved program (open_model program) t ≡ open_saved program t
unfolding open_saved
saved_open program t =
    let x = open_thread_at program t in
    λ k. record {
      state = (x k).state;
      running = (x k).running;
      first = (x k).first;
      ended = (x k).released + flag (x k).finished;
      served = (x k).served;
      trapped = (x k).trapped;
      expired = (x k).expired;
      outputs = [];
      written = λ q. none_written program t q k;
      taken = λ q. none_taken program t q k;
      due = λ j. open_due program t j k;
      period = λ j. open_period program t j k;
    }

-- the block of a thread at the start
pub first_words : (program : Program) (t w : ℕ) → length program.timers ≤ limits.TIMERS →
    slice_index (thread_words (saved program (open_model program) t) 0 0 0) w ≡ timed_word program (length program.timers) t w
first_words program t w few = ap (λ (y : Saved). slice_index (thread_words y 0 0 0) w) (saved_open program t) ∙ open_words program t w few

pub first_thread : (program : Program) (words : List ℕ) (t : ℕ) → IsAccepted program → IsFirstImage program words → t < length program.threads →
    StandsThread (memory_of (shape_of program) words) program (open_model program) t
first_thread program words t accepted first known = record {
  stamp = 0;
  origin = 0;
  value = 0;
  block = λ w. page_word program words t (memory_of (shape_of program) words (Commit t)) w accepted.counts.timers first known
      ∙ sym (first_words program t w accepted.counts.timers);
  event = λ e is. absurd (let none : (thread_of (open_model program) t).event ≡ None = ap (λ (x : ThreadModel). x.event) (open_thread_at program t) in let clash : None ≡ Some e = sym none ∙ is in cc);
  log = λ n lt. absurd (omega arith);
  reached = All-nil (λ (o : Output). o.stamp ≤ 0);
  pages = let none = first.each (Commit t) known in let some = no_pages program t in omega (arith, none, some);
}

-- the private words of the first image, of every accepted program
pub first_private : (program : Program) (words : List ℕ) → IsAccepted program → IsFirstImage program words →
    StandsPrivate (memory_of (shape_of program) words) program (open_model program)
first_private program words accepted first = record {
  code = λ x n known lt. first.each (Code x n) (known, lt);
  threads = λ t lt. first_thread program words t accepted first lt;
  stamps = λ t lt. let none = page_word program words t (memory_of (shape_of program) words (Commit t)) 0 accepted.counts.timers first lt in omega (arith, none);
  newest = inl refl;
  pipes = λ q lt k within. absurd (let none : length (pipe_of (open_model program) q).items ≡ 0 = ap (λ (p : PipeModel). length p.items) (open_pipe_at program q) in omega (arith, none));
}
