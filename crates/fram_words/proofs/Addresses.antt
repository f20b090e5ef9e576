-- Different places have different addresses.
use Rattle.std.proofs.Common.{◌≡◌, ℕ, zero, suc, ◌+◌, ◌-◌, ◌*◌, ◌/◌, ◌%◌, ◌<◌, ◌≤◌, true, ◌&&◌, List, [], ◌∷◌, length, get_or, set, arith, refl, ap, ◌∙◌, sym, inl, inr, subst}
use Rattle.std.specs.Prelude.{nat_lt}
use Rattle.std.proofs.lemmas.Bool.{false≢true, cases_Bool, cases_order, and_parts, ltb-true}
use Rattle.std.proofs.lemmas.List.{get_or-set_same, get_or-set_other}
use Rattle.std.proofs.Math.Path.{fun_ext}
use Rattle.fram_words.specs.Places.{Place, Code, Commit, Page, Log, Ring, Tail, Slot, Ack, Clock, Src, store, same_place}
use Rattle.fram_words.specs.Shape.{Shape, regions, words_before, region, offset, has_indices, is_valid, address, memory_of}
use Rattle.fram_words.proofs.Frames.{same_place-true, same_place-refl}

-- a word's number from its page and its place there
pub whole_word : (w : ℕ) → 8 * (w / 8) + w % 8 ≡ w
whole_word w = omega arith

pub before_next : (xs : List ℕ) (i : ℕ) → words_before xs (suc i) ≡ words_before xs i + get_or xs i 0
before_next [] zero = refl
before_next [] (suc i) = refl
before_next (x ∷ xs) zero = omega arith
before_next (x ∷ xs) (suc i) = let h = before_next xs i in omega (arith, h)

pub before_further : (xs : List ℕ) (i d : ℕ) → words_before xs i ≤ words_before xs (i + d)
before_further xs i zero = let e : i + 0 ≡ i = omega arith in rw e (omega arith)
before_further xs i (suc d) =
    let e : i + suc d ≡ suc (i + d) = omega arith in
    let h : words_before xs i ≤ words_before xs (i + d) = before_further xs i d in
    let n : words_before xs (suc (i + d)) ≡ words_before xs (i + d) + get_or xs (i + d) 0 = before_next xs (i + d) in
    rw e (omega arith)

not_below : (xs : List ℕ) (i j m n : ℕ) → m < get_or xs i 0 → i < j → words_before xs i + m ≡ words_before xs j + n → ⊥
not_below xs i j m n lm lt e =
    let k : suc i + (j - suc i) ≡ j = omega arith in
    let h : words_before xs (suc i) ≤ words_before xs (suc i + (j - suc i)) = before_further xs (suc i) (j - suc i) in
    let g : words_before xs (suc i) ≤ words_before xs j = rw k at h in
    let f : words_before xs (suc i) ≡ words_before xs i + get_or xs i 0 = before_next xs i in
    omega arith

-- regions do not overlap
pub apart : (xs : List ℕ) (i j m n : ℕ) → m < get_or xs i 0 → n < get_or xs j 0 → words_before xs i + m ≡ words_before xs j + n → (i ≡ j) × (m ≡ n)
apart xs i j m n lm ln e =
    elim (cases_order i j) [
      | inl same ↦ (same, let h : words_before xs i ≡ words_before xs j = ap (λ k. words_before xs k) same in omega arith)
      | inr other ↦ elim other [
        | inl lt ↦ absurd (not_below xs i j m n lm lt e)
        | inr gt ↦ absurd (not_below xs j i n m ln gt (sym e))
      ]
    ]

-- the indices as facts
HasIndices : Shape → Place → Type 0
HasIndices s (Code x n) = x < length s.tasks
HasIndices s (Commit t) = t < length s.threads
HasIndices s (Page t p b k) = (t < length s.threads) × (b < 2) × (k < 8)
HasIndices s (Log t n) = t < length s.threads
HasIndices s (Ring q n) = q < length s.pipes
HasIndices s (Tail t) = t < length s.queues
HasIndices s (Slot t n) = t < length s.queues
HasIndices s _ = Unit {0}

indices : (s : Shape) (p : Place) → has_indices s p ≡ true → HasIndices s p
unfolding HasIndices
indices s (Code x n) h = ltb-true _ _ h
indices s (Commit t) h = ltb-true _ _ h
indices s (Page t p b k) h =
    let a = and_parts (nat_lt t (length s.threads)) (nat_lt b 2 && nat_lt k 8) h in
    let c = and_parts (nat_lt b 2) (nat_lt k 8) a.1 in
    (ltb-true _ _ a.0, ltb-true _ _ c.0, ltb-true _ _ c.1)
indices s (Log t n) h = ltb-true _ _ h
indices s (Ring q n) h = ltb-true _ _ h
indices s (Tail t) h = ltb-true _ _ h
indices s (Slot t n) h = ltb-true _ _ h
indices s _ h = tt

same_region : (s : Shape) (p q : Place) → HasIndices s p → HasIndices s q → region s p ≡ region s q → offset p ≡ offset q → p ≡ q
unfolding HasIndices
same_region s (Code x n) (Code y k) a b e f = ap (λ z. Code z n) e ∙ ap (λ z. Code y z) f
same_region s (Commit t) (Commit u) a b e f = let g : t ≡ u = omega arith in ap (λ z. Commit z) g
same_region s (Page t p c k) (Page u q d l) a b e f =
    let g : t ≡ u = omega arith in let h : p ≡ q = omega arith in let i : c ≡ d = omega arith in let j : k ≡ l = omega arith in
    ap (λ z. Page z p c k) g ∙ (ap (λ z. Page u z c k) h ∙ (ap (λ z. Page u q z k) i ∙ ap (λ z. Page u q d z) j))
same_region s (Log t n) (Log u k) a b e f = let g : t ≡ u = omega arith in ap (λ z. Log z n) g ∙ ap (λ z. Log u z) f
same_region s (Ring t n) (Ring u k) a b e f = let g : t ≡ u = omega arith in ap (λ z. Ring z n) g ∙ ap (λ z. Ring u z) f
same_region s (Tail t) (Tail u) a b e f = let g : t ≡ u = omega arith in ap (λ z. Tail z) g
same_region s (Slot t n) (Slot u k) a b e f = let g : t ≡ u = omega arith in ap (λ z. Slot z n) g ∙ ap (λ z. Slot u z) f
same_region s (Ack i) (Ack j) a b e f = ap (λ z. Ack z) f
same_region s Clock Clock a b e f = refl
same_region s (Src i) (Src j) a b e f = ap (λ z. Src z) f
same_region s _ _ a b e f = absurd (omega arith)

-- different valid places have different addresses
pub same_address : (s : Shape) (p q : Place) → is_valid s p ≡ true → is_valid s q ≡ true → address s p ≡ address s q → p ≡ q
unfolding address
same_address s p q vp vq e =
    let a = and_parts (has_indices s p) (nat_lt (offset p) (get_or (regions s) (region s p) 0)) vp in
    let b = and_parts (has_indices s q) (nat_lt (offset q) (get_or (regions s) (region s q) 0)) vq in
    let h = apart (regions s) (region s p) (region s q) (offset p) (offset q) (ltb-true _ _ a.1) (ltb-true _ _ b.1) e in
    same_region s p q (indices s p a.0) (indices s q b.0) h.0 h.1

-- a store to the word of a place is a store to the place
pub store_word : (s : Shape) (words : List ℕ) (p : Place) (v : ℕ) → is_valid s p ≡ true → address s p < length words →
    memory_of s (set words (address s p) v) ≡ store (memory_of s words) p v
store_word s words p v valid within = fun_ext λ q. at q
  where
    at : (q : Place) → memory_of s (set words (address s p) v) q ≡ store (memory_of s words) p v q
    at q =
        elim (cases_Bool (same_place p q)) [
          | inl e ↦
              let is : p ≡ q = same_place-true p q e in
              subst (λ z. memory_of s (set words (address s p) v) z ≡ store (memory_of s words) p v z) is
              (rw (valid, same_place-refl p) (get_or-set_same words (address s p) v 0 within))
          | inr ne ↦
              rw ne elim (cases_Bool (is_valid s q)) [
                | inl vq ↦ rw vq (get_or-set_other words (address s p) (address s q) v 0 (λ e. false≢true (sym ne ∙ (ap (λ z. same_place p z) (same_address s q p vq valid e) ∙ same_place-refl p))))
                | inr nq ↦ rw nq refl
              ]
        ]
