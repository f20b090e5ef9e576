-- What the accesses of a thread's writes do to the committed and the working copy.
use Rattle.thread_state.proofs.Common.{◌≡◌, ◌≢◌, ℕ, ◌+◌, ◌-◌, ◌/◌, ◌%◌, ◌^◌, ◌<◌, true, false, bit_or, bit_xor, arith, refl, ap, ◌∙◌, sym, inl, inr, bit_at, ◌==◌, eqb-true, eqb-false, eq-eqb, ne_eqb, cases_Bool, cases_eq, bit_at_xor, bit_at_or, bit_at-pow_same, bit_at-pow_other, bit_at-lt, bit_at-zero, Place, Commit, Page, Memory, store, perform, answer, place_in, word_in, committed, Copying, Loading, Storing, Buffer, no_writes, is_dirty, working_mask, working, copy_access, after_copy, AgreeBelow, IsCopied, put, IsOutside, IsUnderWay}
use Rattle.fram_words.proofs.Frames.{store-same, store-other}

-- a store in a copy that a mask does not name changes no word of that mask
pub word_in-other_copy : (m : Memory) (t mask p c k v w : ℕ) → c ≢ bit_at mask p → word_in (store m (Page t p c k) v) t mask w ≡ word_in m t mask w
word_in-other_copy m t mask p c k v w ne =
    store-other m (Page t p c k) (place_in t mask w) v λ e. grind arith

-- nor does a store in the block of another thread
pub word_in-other_thread : (m : Memory) (t u mask p c k v w : ℕ) → u ≢ t → word_in (store m (Page u p c k) v) t mask w ≡ word_in m t mask w
word_in-other_thread m t u mask p c k v w ne = store-other m (Page u p c k) (place_in t mask w) v λ e. ne (cc)

-- a store in the copy that the mask names
pub word_in-put_same : (m : Memory) (t mask u v : ℕ) → word_in (store m (place_in t mask u) v) t mask u ≡ v
word_in-put_same m t mask u v = store-same m (place_in t mask u) v

pub word_in-put_other : (m : Memory) (t mask u v w : ℕ) → w ≢ u → word_in (store m (place_in t mask u) v) t mask w ≡ word_in m t mask w
word_in-put_other m t mask u v w ne = store-other m (place_in t mask u) (place_in t mask w) v λ e. grind arith

-- masks that name the same copy of a page
pub word_in-same_bit : (m : Memory) (t a b w : ℕ) → bit_at a (w / 8) ≡ bit_at b (w / 8) → word_in m t a w ≡ word_in m t b w
word_in-same_bit m t a b w e = ap (λ c. m (Page t (w / 8) c (w % 8))) e

pub clean_bit : (c d p : ℕ) → bit_at d p ≡ 0 → bit_at (bit_xor c d) p ≡ bit_at c p
clean_bit c d p h = grind (arith, bit_at_xor, bit_at-lt)

pub dirty_bit : (c d p : ℕ) → bit_at d p ≡ 1 → bit_at (bit_xor c d) p ≡ 1 - bit_at c p
dirty_bit c d p h = grind (arith, bit_at_xor, bit_at-lt)

pub xor_bits : (c d e p : ℕ) → bit_at d p ≡ bit_at e p → bit_at (bit_xor c d) p ≡ bit_at (bit_xor c e) p
xor_bits c d e p h = grind (arith, bit_at_xor)

pub marked_same : (d p : ℕ) → bit_at (bit_or d (2 ^ p)) p ≡ 1
marked_same d p = grind (arith, bit_at_or, bit_at-pow_same, bit_at-lt)

pub marked_other : (d p i : ℕ) → i ≢ p → bit_at (bit_or d (2 ^ p)) i ≡ bit_at d i
marked_other d p i ne = grind (arith, bit_at_or, bit_at-pow_other, bit_at-lt)

pub other_bit : (c p : ℕ) → 1 - bit_at c p ≢ bit_at c p
other_bit c p e = grind (arith, bit_at-lt c p)

-- a clean page that is marked once its copies agree: the working copy stays
pub mark_keeps : (m : Memory) (t c d p w : ℕ) → bit_at d p ≡ 0 → AgreeBelow m t c p 8 →
    word_in m t (bit_xor c (bit_or d (2 ^ p))) w ≡ word_in m t (bit_xor c d) w
mark_keeps m t c d p w clean agree =
    elim (cases_eq (w / 8) p) [
      | inl e ↦
          (ap (λ b. m (Page t (w / 8) b (w % 8))) (ap (λ q. bit_at (bit_xor c (bit_or d (2 ^ p))) q) e ∙ dirty_bit c (bit_or d (2 ^ p)) p (marked_same d p))
          ∙ ap (λ q. m (Page t q (1 - bit_at c p) (w % 8))) e)
          ∙ (agree (w % 8) (omega arith)
          ∙ sym (ap (λ b. m (Page t (w / 8) b (w % 8))) (ap (λ q. bit_at (bit_xor c d) q) e ∙ clean_bit c d p clean) ∙ ap (λ q. m (Page t q (bit_at c p) (w % 8))) e))
      | inr ne ↦ word_in-same_bit m t _ _ w (xor_bits c _ d (w / 8) (marked_other d p (w / 8) ne))
    ]

-- the copies agree on one more word after its store
pub agree_more : (m : Memory) (t c p k v : ℕ) → AgreeBelow m t c p k → v ≡ m (Page t p (bit_at c p) k) →
    AgreeBelow (store m (Page t p (1 - bit_at c p) k) v) t c p (k + 1)
agree_more m t c p k v agree is j lt =
    let kept : store m (Page t p (1 - bit_at c p) k) v (Page t p (bit_at c p) j) ≡ m (Page t p (bit_at c p) j) =
    store-other m (Page t p (1 - bit_at c p) k) (Page t p (bit_at c p) j) v λ e. other_bit c p (cc)
    in elim (cases_eq j k) [
      | inl e ↦
          (ap (λ n. store m (Page t p (1 - bit_at c p) k) v (Page t p (1 - bit_at c p) n)) e ∙ store-same m (Page t p (1 - bit_at c p) k) v)
          ∙ (is ∙ (ap (λ n. m (Page t p (bit_at c p) n)) (sym e) ∙ sym kept))
      | inr ne ↦ store-other m (Page t p (1 - bit_at c p) k) (Page t p (1 - bit_at c p) j) v (λ e. ne (cc)) ∙ (agree j (omega arith) ∙ sym kept)
    ]

-- the one store that commits
pub commit_committed : (m : Memory) (t mask w : ℕ) → committed (store m (Commit t) mask) t w ≡ word_in m t mask w
commit_committed m t mask w = ap (λ c. m (Page t (w / 8) (bit_at c (w / 8)) (w % 8))) (store-same m (Commit t) mask)

pub commit_other : (m : Memory) (t u mask w : ℕ) → t ≢ u → committed (store m (Commit t) mask) u w ≡ committed m u w
commit_other m t u mask w ne = ap (λ c. m (Page u (w / 8) (bit_at c (w / 8)) (w % 8))) (store-other m (Commit t) (Commit u) mask λ e. ne (cc))

pub is_dirty-true : (b : Buffer) (p : ℕ) → bit_at b.dirty p ≡ 1 → is_dirty b p ≡ true
is_dirty-true b p h = eq-eqb _ _ h

pub is_dirty-false : (b : Buffer) (p : ℕ) → bit_at b.dirty p ≡ 0 → is_dirty b p ≡ false
is_dirty-false b p h = ne_eqb _ _ λ e. omega arith

-- a step of a write changes no word outside of the thread's pages
pub copy_only : (m : Memory) (t c p : ℕ) (x : Copying) (q : Place) → IsOutside t q → perform m (copy_access t c p x) q ≡ m q
copy_only m t c p (Loading k) q out = refl
copy_only m t c p (Storing k v) (Page u a b w) out = store-other m (Page t p (1 - bit_at c p) k) (Page u a b w) v λ e. out (cc)
copy_only m t c p (Storing k v) _ out = refl

-- a step of the copying of a clean page: the committed and the working copy stay
pub copy_committed : (m : Memory) (t p : ℕ) (x : Copying) (w : ℕ) → committed (perform m (copy_access t (m (Commit t)) p x)) t w ≡ committed m t w
copy_committed m t p (Loading k) w = refl
copy_committed m t p (Storing k v) w = word_in-other_copy m t (m (Commit t)) p _ k v w (other_bit _ p)

pub copy_working : (m : Memory) (t : ℕ) (b : Buffer) (p : ℕ) (x : Copying) (w : ℕ) → bit_at b.dirty p ≡ 0 → IsCopied m t b.commit p x →
    working (perform m (copy_access t b.commit p x)) t (after_copy b p x (answer m (copy_access t b.commit p x))) w ≡ working m t b w
copy_working m t b p (Loading k) w clean copied = refl
copy_working m t b p (Storing k v) w clean copied =
    let kept : word_in (store m (Page t p (1 - bit_at b.commit p) k) v) t (working_mask b) w ≡ working m t b w =
    word_in-other_copy m t (working_mask b) p (1 - bit_at b.commit p) k v w (λ e. other_bit b.commit p (e ∙ clean_bit b.commit b.dirty p clean))
    in elim (cases_Bool (k == 7)) [
      | inl e ↦
          let seven : k ≡ 7 = eqb-true k 7 e in
          let agree : AgreeBelow (store m (Page t p (1 - bit_at b.commit p) k) v) t b.commit p (k + 1) =
          agree_more m t b.commit p k v copied.1 copied.2
          in rw e (mark_keeps (store m (Page t p (1 - bit_at b.commit p) k) v) t b.commit b.dirty p w clean (λ j lt. agree j (omega arith)) ∙ kept)
      | inr e ↦ rw e kept
    ]

pub copy_goes_on : (m : Memory) (t : ℕ) (b : Buffer) (p : ℕ) (x : Copying) → bit_at b.dirty p ≡ 0 → IsCopied m t b.commit p x →
    IsUnderWay (perform m (copy_access t b.commit p x)) t (after_copy b p x (answer m (copy_access t b.commit p x))) p
copy_goes_on m t b p (Loading k) clean copied = inl (clean, (copied.0, copied.1, refl))
copy_goes_on m t b p (Storing k v) clean copied =
    elim (cases_Bool (k == 7)) [
      | inl e ↦ rw e (inr (marked_same b.dirty p, refl))
      | inr e ↦
          let below : k + 1 < 8 = let ne : k ≢ 7 = eqb-false k 7 e in let lt : k < 8 = copied.0 in omega arith in
          rw e (inl (clean, (below, agree_more m t b.commit p k v copied.1 copied.2)))
    ]

-- a write on a dirty page: the committed copy stays, and the working copy changes at that word alone
pub put_committed : (m : Memory) (t : ℕ) (b : Buffer) (u v w : ℕ) → b.commit ≡ m (Commit t) → bit_at b.dirty (u / 8) ≡ 1 →
    committed (store m (place_in t (working_mask b) u) v) t w ≡ committed m t w
put_committed m t b u v w is dirty =
    let other : bit_at (working_mask b) (u / 8) ≡ 1 - bit_at (m (Commit t)) (u / 8) =
    dirty_bit b.commit b.dirty (u / 8) dirty ∙ ap (λ c. 1 - bit_at c (u / 8)) is
    in word_in-other_copy m t (m (Commit t)) (u / 8) (bit_at (working_mask b) (u / 8)) (u % 8) v w (λ e. other_bit (m (Commit t)) (u / 8) (sym other ∙ e))

pub put_working : (m : Memory) (t : ℕ) (b : Buffer) (u v w : ℕ) (contents : ℕ → ℕ) → ((x : ℕ) → working m t b x ≡ contents x) →
    working (store m (place_in t (working_mask b) u) v) t b w ≡ put contents u v w
put_working m t b u v w contents known =
    elim (cases_eq w u) [
      | inl e ↦ ap (λ x. word_in (store m (place_in t (working_mask b) u) v) t (working_mask b) x) e
          ∙ (word_in-put_same m t (working_mask b) u v ∙ rw (eq-eqb w u e) refl)
      | inr ne ↦ word_in-put_other m t (working_mask b) u v w ne ∙ (known w ∙ rw (ne_eqb w u ne) refl)
    ]

pub dirty_put_only : (m : Memory) (t mask u v : ℕ) (q : Place) → IsOutside t q → store m (place_in t mask u) v q ≡ m q
dirty_put_only m t mask u v (Page x a b w) out = store-other m (place_in t mask u) (Page x a b w) v λ e. out (cc)
dirty_put_only m t mask u v _ out = refl

-- without writes the working copy is the committed one
pub no_writes_words : (m : Memory) (t w : ℕ) → working m t (no_writes (m (Commit t))) w ≡ committed m t w
no_writes_words m t w = word_in-same_bit m t _ _ w (clean_bit (m (Commit t)) 0 (w / 8) (bit_at-zero (w / 8)))
