-- The shared words of a board stand behind its private ones, in the order in which the set of queues has them.
use Rattle.std.proofs.Common.{◌≡◌, ℕ, zero, suc, ◌+◌, ◌-◌, ◌*◌, ◌<◌, ◌≤◌, true, List, [], ◌∷◌, ◌++◌, length, length-append, append_assoc, slice_index, refl, sym, ap, ◌∙◌, arith}
use Rattle.std.specs.Prelude.{nat_lt}
use Rattle.std.proofs.lemmas.Bool.{and_parts, ltb-true}
use Rattle.fram_words.proofs.Addresses.{before_next, before_further}
use Rattle.fram_words.specs.Places as board
use Rattle.fram_words.specs.Shape as shapes
use Rattle.fram_words.specs.Shape.{Shape, ThreadShape, regions, region, thread_regions, queue_regions, words_before}
use Rattle.event_queue.specs.declared.view.Lay.{Lay}
use Rattle.event_queue.specs.Places as set

-- the regions of the private words
abbrev pub private_regions : Shape → List ℕ
private_regions s = s.tasks ++ (thread_regions s.threads ++ s.pipes)

-- how many private words there are
abbrev pub private_words : Shape → ℕ
private_words s = words_before (private_regions s) (length (private_regions s))

before-append : (xs ys : List ℕ) (k : ℕ) → words_before (xs ++ ys) (length xs + k) ≡ words_before xs (length xs) + words_before ys k
before-append [] ys zero = refl
before-append [] ys (suc k) = ap (λ (n : ℕ). words_before ys n) (let e : 0 + suc k ≡ suc k = omega arith in e) ∙ (let e : words_before ys (suc k) ≡ 0 + words_before ys (suc k) = omega arith in e)
before-append (x ∷ xs) ys k =
    let e : length (x ∷ xs) + k ≡ suc (length xs + k) = omega arith in
    ap (words_before (x ∷ (xs ++ ys))) e ∙ omega (arith, before-append xs ys k)

-- the words before a queue
before-queue : (qs rest : List ℕ) (t : ℕ) → t ≤ length qs → words_before (queue_regions qs ++ rest) (2 * t) ≡ set.words_before qs t
before-queue [] rest zero le = refl
before-queue [] rest (suc t) le = absurd (omega arith)
before-queue (q ∷ qs) rest zero le = refl
before-queue (q ∷ qs) rest (suc t) le =
    let e : 2 * suc t ≡ suc (suc (2 * t)) = omega arith in
    ap (words_before (1 ∷ q ∷ (queue_regions qs ++ rest))) e ∙ omega (arith, before-queue qs rest t (omega arith))

length-threads : (xs : List ThreadShape) → length (thread_regions xs) ≡ 3 * length xs
length-threads [] = refl
length-threads (x ∷ xs) = omega (arith, length-threads xs)

length-queues : (qs : List ℕ) → length (queue_regions qs) ≡ 2 * length qs
length-queues [] = refl
length-queues (q ∷ qs) = omega (arith, length-queues qs)

length-private : (s : Shape) → length (private_regions s) ≡ length s.tasks + 3 * length s.threads + length s.pipes
length-private s = omega (arith, length-append s.tasks (thread_regions s.threads ++ s.pipes), length-append (thread_regions s.threads) s.pipes, length-threads s.threads)

split_regions : (s : Shape) → regions s ≡ private_regions s ++ (queue_regions s.queues ++ (s.sources ∷ 1 ∷ s.sources ∷ []))
split_regions s = sym (append_assoc s.tasks (thread_regions s.threads ++ s.pipes) (queue_regions s.queues ++ (s.sources ∷ 1 ∷ s.sources ∷ [])) ∙ ap (λ (l : List ℕ). s.tasks ++ l) (append_assoc (thread_regions s.threads) s.pipes (queue_regions s.queues ++ (s.sources ∷ 1 ∷ s.sources ∷ []))))

pub before_shared : (s : Shape) (k : ℕ) → words_before (regions s) (length s.tasks + 3 * length s.threads + length s.pipes + k) ≡ private_words s + words_before (queue_regions s.queues ++ (s.sources ∷ 1 ∷ s.sources ∷ [])) k
before_shared s k = (λ j. words_before (split_regions s j) (sym (length-private s) j + k)) ∙ before-append (private_regions s) (queue_regions s.queues ++ (s.sources ∷ 1 ∷ s.sources ∷ [])) k

-- the set of the same queues and sources
abbrev pub HasShape : Shape → Lay → Type 0
HasShape s lay = (lay.queues ≡ s.queues) × (length lay.sources ≡ s.sources)

-- what an address is
address_is : (s : Shape) (p : board.Place) → shapes.address s p ≡ words_before (regions s) (region s p) + shapes.offset p
unfolding shapes.address
address_is s p = refl

pub tail_behind : (s : Shape) (lay : Lay) (t : ℕ) → HasShape s lay → t < length s.queues → shapes.address s (board.Tail t) ≡ private_words s + set.address lay (set.Tail t)
tail_behind s lay t same lt = omega (arith, address_is s (board.Tail t), before_shared s (2 * t), before-queue s.queues (s.sources ∷ 1 ∷ s.sources ∷ []) t (omega arith), ap (λ (qs : List ℕ). set.words_before qs t) same.0)

pub slot_behind : (s : Shape) (lay : Lay) (t n : ℕ) → HasShape s lay → t < length s.queues → shapes.address s (board.Slot t n) ≡ private_words s + set.address lay (set.Slot t n)
slot_behind s lay t n same lt =
    omega (arith, address_is s (board.Slot t n), ap (words_before (regions s)) (let e : length s.tasks + 3 * length s.threads + length s.pipes + 2 * t + 1 ≡ length s.tasks + 3 * length s.threads + length s.pipes + (2 * t + 1) = omega arith in e), before_shared s (2 * t + 1), next_region s.queues (s.sources ∷ 1 ∷ s.sources ∷ []) t lt, ap (λ (qs : List ℕ). set.words_before qs t) same.0)
  where
    next_region : (qs rest : List ℕ) (t : ℕ) → t < length qs → words_before (queue_regions qs ++ rest) (2 * t + 1) ≡ set.words_before qs t + 1
    next_region [] rest t lt = absurd (omega arith)
    next_region (q ∷ qs) rest zero lt = refl
    next_region (q ∷ qs) rest (suc t) lt =
        let e : 2 * suc t + 1 ≡ suc (suc (2 * t + 1)) = omega arith in
        ap (words_before (1 ∷ q ∷ (queue_regions qs ++ rest))) e ∙ omega (arith, next_region qs rest t (omega arith))

past_queues : (qs rest : List ℕ) (k : ℕ) → words_before (queue_regions qs ++ rest) (2 * length qs + k) ≡ set.words_before qs (length qs) + words_before rest k
past_queues [] rest k = ap (words_before rest) (let e : 2 * 0 + k ≡ k = omega arith in e) ∙ (let e : words_before rest k ≡ 0 + words_before rest k = omega arith in e)
past_queues (q ∷ qs) rest k =
    let e : 2 * length (q ∷ qs) + k ≡ suc (suc (2 * length qs + k)) = omega arith in
    ap (words_before (1 ∷ q ∷ (queue_regions qs ++ rest))) e ∙ omega (arith, past_queues qs rest k)

pub ack_behind : (s : Shape) (lay : Lay) (i : ℕ) → HasShape s lay → shapes.address s (board.Ack i) ≡ private_words s + set.address lay (set.Ack i)
ack_behind s lay i same =
    omega (arith, address_is s (board.Ack i), before_shared s (2 * length s.queues), ap (words_before (queue_regions s.queues ++ (s.sources ∷ 1 ∷ s.sources ∷ []))) (let e : 2 * length s.queues ≡ 2 * length s.queues + 0 = omega arith in e), past_queues s.queues (s.sources ∷ 1 ∷ s.sources ∷ []) 0, ap (λ (qs : List ℕ). set.words_before qs (length qs)) same.0)

pub clock_behind : (s : Shape) (lay : Lay) → HasShape s lay → shapes.address s board.Clock ≡ private_words s + set.address lay set.Clock
clock_behind s lay same =
    omega (arith, address_is s board.Clock, ap (words_before (regions s)) (let e : length s.tasks + 3 * length s.threads + length s.pipes + 2 * length s.queues + 1 ≡ length s.tasks + 3 * length s.threads + length s.pipes + (2 * length s.queues + 1) = omega arith in e), before_shared s (2 * length s.queues + 1), past_queues s.queues (s.sources ∷ 1 ∷ s.sources ∷ []) 1, ap (λ (qs : List ℕ). set.words_before qs (length qs)) same.0, same.1)

-- the SRCs stand behind the words of the set
pub src_behind : (s : Shape) (lay : Lay) (i : ℕ) → HasShape s lay → shapes.address s (board.Src i) ≡ private_words s + set.word_count lay + i
src_behind s lay i same =
    omega (arith, address_is s (board.Src i), ap (words_before (regions s)) (let e : length s.tasks + 3 * length s.threads + length s.pipes + 2 * length s.queues + 2 ≡ length s.tasks + 3 * length s.threads + length s.pipes + (2 * length s.queues + 2) = omega arith in e), before_shared s (2 * length s.queues + 2), past_queues s.queues (s.sources ∷ 1 ∷ s.sources ∷ []) 2, ap (λ (qs : List ℕ). set.words_before qs (length qs)) same.0, same.1)

-- the first shared word
pub first_behind : (s : Shape) → shapes.address s (board.Tail 0) ≡ private_words s
first_behind s = omega (arith, address_is s (board.Tail 0), before_shared s 0)

-- all words
pub words_behind : (s : Shape) (lay : Lay) → HasShape s lay → words_before (regions s) (length (regions s)) ≡ private_words s + set.word_count lay + s.sources
words_behind s lay same =
    let size : length (regions s) ≡ length s.tasks + 3 * length s.threads + length s.pipes + (2 * length s.queues + 3) =
    omega (arith, ap length (split_regions s), length-append (private_regions s) (queue_regions s.queues ++ (s.sources ∷ 1 ∷ s.sources ∷ [])), length-private s, length-append (queue_regions s.queues) (s.sources ∷ 1 ∷ s.sources ∷ []), length-queues s.queues) in
    omega (arith, ap (words_before (regions s)) size, before_shared s (2 * length s.queues + 3), past_queues s.queues (s.sources ∷ 1 ∷ s.sources ∷ []) 3, ap (λ (qs : List ℕ). set.words_before qs (length qs)) same.0, same.1)

-- a region before those of the queues ends among the private words
private_ends : (s : Shape) (n : ℕ) → n < length s.tasks + 3 * length s.threads + length s.pipes → words_before (regions s) (suc n) ≤ private_words s
private_ends s n lt =
    let d : ℕ = (length s.tasks + 3 * length s.threads + length s.pipes) - suc n in
    omega (arith, before_further (regions s) (suc n) d, ap (words_before (regions s)) (let e : suc n + d ≡ length s.tasks + 3 * length s.threads + length s.pipes + 0 = omega arith in e), before_shared s 0)

-- a place of such a region has a private address
pub private_address : (s : Shape) (p : board.Place) → shapes.region s p < length s.tasks + 3 * length s.threads + length s.pipes → shapes.is_valid s p ≡ true → shapes.address s p < private_words s
private_address s p before valid =
    let within : shapes.offset p < slice_index (regions s) (region s p) = ltb-true _ _ (and_parts (shapes.has_indices s p) (nat_lt (shapes.offset p) (slice_index (regions s) (region s p))) valid).1 in
    omega (arith, address_is s p, before_next (regions s) (region s p), private_ends s (region s p) before)
