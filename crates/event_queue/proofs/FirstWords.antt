-- The words that a set of queues begins with.
use Rattle.event_queue.proofs.Common.{◌≡◌, ◌≢◌, inl, inr, ℕ, zero, suc, ◌+◌, ◌-◌, ◌<◌, ◌≤◌, List, [], ◌∷◌, ◌++◌, length, get_or, slice_index, refl, sym, ap, ◌∙◌, subst, arith, length-append, get_or-append-add, cases_lt, get_or_append_left, get_or_push, empty_word, Role, Kernel, Clock, Source, Lay, words_before, word_count, sources_from, all_roles, empties, zeros, image_to, tails_to, words_of, Every, AllApart}

pub length-empties : (n : ℕ) → length (empties n) ≡ n
length-empties zero = refl
length-empties (suc n) = omega (arith, length-empties n, length-append (empties n) (empty_word n ∷ []))

length-zeros : (n : ℕ) → length (zeros n) ≡ n
length-zeros zero = refl
length-zeros (suc n) = omega (arith, length-zeros n, length-append (zeros n) (0 ∷ []))

pub zeros_at : (n s : ℕ) → get_or (zeros n) s 0 ≡ 0
zeros_at zero s = refl
zeros_at (suc n) s =
    elim (cases_lt s n) [
      | inl less ↦ get_or_append_left (zeros n) (0 ∷ []) 0 s (omega (arith, length-zeros n)) ∙ zeros_at n s
      | inr ge ↦ ap (λ (k : ℕ). get_or (zeros n ++ 0 ∷ []) k 0) (let k : s ≡ length (zeros n) + (s - n) = omega (arith, length-zeros n) in k) ∙ get_or-append-add (zeros n) (0 ∷ []) (s - n) 0 ∙ tail_zero (s - n)
    ]
  where
    tail_zero : (k : ℕ) → get_or (zeros 1) k 0 ≡ 0
    tail_zero zero = refl
    tail_zero (suc k) = refl

empties_at : (n s : ℕ) → s < n → get_or (empties n) s 0 ≡ empty_word s
empties_at zero s lt = absurd (omega arith)
empties_at (suc n) s lt =
    elim (cases_lt s n) [
      | inl less ↦ get_or_append_left (empties n) (empty_word n ∷ []) 0 s (omega (arith, length-empties n)) ∙ empties_at n s less
      | inr last ↦ let same : s ≡ n = omega arith in get_or_push (empties n) (empty_word n) 0 s (length-empties n ∙ sym same) ∙ ap empty_word (sym same)
    ]

words_before-next : (places : List ℕ) (t : ℕ) → t < length places → words_before places (suc t) ≡ words_before places t + 1 + slice_index places t
words_before-next [] t lt = absurd (omega arith)
words_before-next (x ∷ xs) zero lt = omega (arith, words_before-none xs)
  where
    words_before-none : (ys : List ℕ) → words_before ys 0 ≡ 0
    words_before-none [] = refl
    words_before-none (y ∷ ys) = refl
words_before-next (x ∷ xs) (suc t) lt = omega (arith, words_before-next xs t (omega arith))

pub length-image : (places : List ℕ) (t : ℕ) → t ≤ length places → length (image_to places t) ≡ words_before places t
length-image places zero le = none places
  where
    none : (ys : List ℕ) → 0 ≡ words_before ys 0
    none [] = refl
    none (y ∷ ys) = refl
length-image places (suc t) le =
    omega (arith, length-image places t (omega arith), words_before-next places t (omega arith), length-append (image_to places t ++ 0 ∷ []) (empties (slice_index places t)), length-append (image_to places t) (0 ∷ []), length-empties (slice_index places t))

-- the number of words
pub length-first : (lay : Lay) → length (words_of lay) ≡ word_count lay
length-first lay =
    omega (arith, length-append (image_to lay.queues (length lay.queues)) (zeros (length lay.sources + 1)), length-image lay.queues (length lay.queues) (omega arith), length-zeros (length lay.sources + 1))

pub image_tail : (places : List ℕ) (t u : ℕ) → t ≤ length places → u < t → (get_or (image_to places t) (words_before places u) 0 ≡ 0) × (words_before places u < length (image_to places t))
image_tail places zero u le lt = absurd (omega arith)
image_tail places (suc t) u le lt =
    let A : List ℕ = image_to places t in
    let E : List ℕ = empties (slice_index places t) in
    let len = length-append (A ++ 0 ∷ []) E in
    let len' = length-append A (0 ∷ []) in
    elim (cases_lt u t) [
      | inl less ↦
          let x = image_tail places t u (omega arith) less in
          (get_or_append_left (A ++ 0 ∷ []) E 0 (words_before places u) (omega (arith, x.1)) ∙ get_or_append_left A (0 ∷ []) 0 (words_before places u) x.1 ∙ x.0, omega (arith, x.1))
      | inr last ↦
          let same : u ≡ t = omega arith in
          let at : words_before places u ≡ length A = ap (words_before places) same ∙ sym (length-image places t (omega arith)) in
          (get_or_append_left (A ++ 0 ∷ []) E 0 (words_before places u) (omega arith) ∙ get_or_push A 0 0 (words_before places u) (sym at), omega arith)
    ]

pub image_slot : (places : List ℕ) (t u s : ℕ) → t ≤ length places → u < t → s < slice_index places u → (get_or (image_to places t) (words_before places u + 1 + s) 0 ≡ empty_word s) × (words_before places u + 1 + s < length (image_to places t))
image_slot places zero u s le lt less = absurd (omega arith)
image_slot places (suc t) u s le lt less =
    let A : List ℕ = image_to places t in
    let E : List ℕ = empties (slice_index places t) in
    let len = length-append (A ++ 0 ∷ []) E in
    let len' = length-append A (0 ∷ []) in
    let len_E = length-empties (slice_index places t) in
    elim (cases_lt u t) [
      | inl before ↦
          let x = image_slot places t u s (omega arith) before less in
          (get_or_append_left (A ++ 0 ∷ []) E 0 (words_before places u + 1 + s) (omega (arith, x.1)) ∙ get_or_append_left A (0 ∷ []) 0 (words_before places u + 1 + s) x.1 ∙ x.0, omega (arith, x.1))
      | inr last ↦
          let same : u ≡ t = omega arith in
          let here : s < slice_index places t = subst (λ (v : ℕ). s < slice_index places v) same less in
          let at : words_before places u + 1 + s ≡ length (A ++ 0 ∷ []) + s = omega (arith, ap (words_before places) same, length-image places t (omega arith)) in
          (ap (λ (k : ℕ). get_or ((A ++ 0 ∷ []) ++ E) k 0) at ∙ get_or-append-add (A ++ 0 ∷ []) E s 0 ∙ empties_at (slice_index places t) s here, omega arith)
    ]

pub length-tails : (places : List ℕ) (t : ℕ) → length (tails_to places t) ≡ t
length-tails places zero = refl
length-tails places (suc t) = omega (arith, length-tails places t, length-append (tails_to places t) (words_before places t ∷ []))

pub tails_at : (places : List ℕ) (t u : ℕ) → u < t → (slice_index (tails_to places t) u ≡ words_before places u) × (length (tails_to places t) ≡ t)
tails_at places zero u lt = absurd (omega arith)
tails_at places (suc t) u lt =
    let all = length-tails places t in
    elim (cases_lt u t) [
      | inl less ↦ (get_or_append_left (tails_to places t) (words_before places t ∷ []) 0 u (omega arith) ∙ (tails_at places t u less).0, length-tails places (suc t))
      | inr last ↦ let same : u ≡ t = omega arith in (get_or_push (tails_to places t) (words_before places t) 0 u (all ∙ sym same) ∙ ap (words_before places) (sym same), length-tails places (suc t))
    ]

-- no role is to be made twice
apart_from : (r : Role) (i n : ℕ) → ((j : ℕ) → i ≤ j → Source j ≢ r) → Every (λ q. q ≢ r) (sources_from i n)
apart_from r i zero h = tt
apart_from r i (suc n) h = (h i (omega arith), apart_from r (suc i) n (λ j le. h j (omega arith)))

sources_apart : (i n : ℕ) → AllApart (sources_from i n)
sources_apart i zero = tt
sources_apart i (suc n) = (apart_from (Source i) (suc i) n (λ j le e. let same : j ≡ i = cc in absurd (omega arith)), sources_apart (suc i) n)

pub roles_apart : (n : ℕ) → AllApart (all_roles n)
roles_apart n = (((λ e. cc), apart_from Kernel 0 n (λ j le e. cc)), (apart_from Clock 0 n (λ j le e. cc), sources_apart 0 n))
