-- The lengths of the regions of one more item.
use Rattle.ink_layout.proofs.Common.{◌≡◌, ℕ, zero, suc, ◌+◌, ◌-◌, ◌*◌, ◌<◌, ◌≤◌, List, [], ◌∷◌, ◌++◌, length, map, take, get_or, refl, ap, ◌∙◌, sym, arith, length-append, inl, inr, cases_eq, get_or_append_left, ThreadDef, thread_regions, queue_regions, words_before, before_next, before_further, pages_of, thread_shape, queue_words}

pub blocks_more : (threads : List ThreadDef) (i n : ℕ) (d : ThreadDef) → n ≡ i + 1 → i < length threads → d ≡ get_or threads i d →
    thread_regions (map thread_shape (take n threads)) ≡ thread_regions (map thread_shape (take i threads)) ++ 1 ∷ 16 * pages_of d ∷ d.log ∷ []
blocks_more [] i n d e lt is = absurd (omega arith)
blocks_more (x ∷ xs) zero (suc zero) d e lt is = ap (λ (y : ThreadDef). 1 ∷ 16 * pages_of y ∷ y.log ∷ []) (sym is)
blocks_more (x ∷ xs) (suc i) (suc n) d e lt is = ap (λ rest. 1 ∷ 16 * pages_of x ∷ x.log ∷ rest) (blocks_more xs i n d (omega arith) (omega arith) is)
blocks_more _ _ _ d e lt is = absurd (omega arith)

pub queues_more : (threads : List ThreadDef) (i n : ℕ) (d : ThreadDef) → n ≡ i + 1 → i < length threads → d ≡ get_or threads i d →
    queue_regions (map queue_words (take n threads)) ≡ queue_regions (map queue_words (take i threads)) ++ 1 ∷ d.queue ∷ []
queues_more [] i n d e lt is = absurd (omega arith)
queues_more (x ∷ xs) zero (suc zero) d e lt is = ap (λ (y : ThreadDef). 1 ∷ y.queue ∷ []) (sym is)
queues_more (x ∷ xs) (suc i) (suc n) d e lt is = ap (λ rest. 1 ∷ x.queue ∷ rest) (queues_more xs i n d (omega arith) (omega arith) is)
queues_more _ _ _ d e lt is = absurd (omega arith)

-- what comes before a region ends before all end
pub within_all : (lengths : List ℕ) (n : ℕ) → n < length lengths → words_before lengths n + get_or lengths n 0 ≤ words_before lengths (length lengths)
within_all lengths n lt =
    let k : suc n + (length lengths - suc n) ≡ length lengths = omega arith in
    let f : words_before lengths (suc n) ≤ words_before lengths (suc n + (length lengths - suc n)) = before_further lengths (suc n) (length lengths - suc n) in
    let g : words_before lengths (suc n) ≤ words_before lengths (length lengths) = rw k at f in
    omega (arith, before_next lengths n)

-- The starts of the regions before one, and where it begins.
pub record Before (n at : ℕ) (lengths starts : List ℕ) : Type 0 where
  pub count : length starts ≡ n
  pub end : at ≡ words_before lengths n
  pub each : (k : ℕ) → k < n → get_or starts k 0 ≡ words_before lengths k

at_end : (xs : List ℕ) (x n : ℕ) → length xs ≡ n → get_or (xs ++ x ∷ []) n 0 ≡ x
at_end [] x zero e = refl
at_end [] x (suc n) e = absurd (omega arith)
at_end (y ∷ xs) x zero e = absurd (omega arith)
at_end (y ∷ xs) x (suc n) e = at_end xs x n (omega arith)

-- one more start
pub one_more : (n at : ℕ) (lengths starts : List ℕ) → Before n at lengths starts → (k : ℕ) → k < n + 1 → get_or (starts ++ at ∷ []) k 0 ≡ words_before lengths k
one_more n at lengths starts b k lt =
    elim (cases_eq k n) [
      | inl e ↦ at_end starts at k (omega (arith, b.count)) ∙ (b.end ∙ ap (words_before lengths) (sym e))
      | inr ne ↦ get_or_append_left starts (at ∷ []) 0 k (omega (arith, b.count)) ∙ b.each k (omega arith)
    ]

pub before_more : (n at : ℕ) (lengths starts : List ℕ) → Before n at lengths starts → Before (n + 1) (at + get_or lengths n 0) lengths (starts ++ at ∷ [])
before_more n at lengths starts b =
    let s : suc n ≡ n + 1 = omega arith in
    record {
      count = simp length-append (omega (arith, b.count));
      end = let e = before_next lengths n in ap (λ x. x + get_or lengths n 0) b.end ∙ (sym e ∙ ap (words_before lengths) s);
      each = one_more n at lengths starts b;
    }
