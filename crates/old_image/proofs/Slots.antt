-- The words of slots in the earlier form are read back, and what is read is the word.
use Rattle.old_image.proofs.Common.{◌≡◌, ◌≢◌, ℕ, ◌*◌, ◌/◌, ◌%◌, ◌^◌, ◌<◌, ◌==◌, ◌&&◌, cond, nat_lt, Bool, true, false, Option, Some, None, refl, sym, ap, ◌∙◌, subst, arith, eq-eqb, eqb-true, lt-ltb, ltb-true, and_parts, same_Some, SourceId, OldSlot, FitsOldSlot, IsOldSlot, old_full_word, old_empty_word, old_full_in, old_slot_in, old_word_of}
use Rattle.old_image.specs.declared.old_slot.OldSlot.TheVariants.{Empty, Full}

old_slot_in-full : (p : ℕ) (i : SourceId) (n v : ℕ) → FitsOldSlot p i n v → old_slot_in (old_full_word p i n v) ≡ Some (Full p i n v)
old_slot_in-full p i n v h =
    let t = eq-eqb _ _ (let x : old_full_word p i n v / 2 ^ 57 ≡ 1 = omega (arith, h.position_fits, h.source_fits, h.reading_fits, h.value_fits) in x) in
    let a : old_full_word p i n v / 2 ^ 36 % 2 ^ 21 ≡ p = omega (arith, h.position_fits, h.source_fits, h.reading_fits, h.value_fits) in
    let b : old_full_word p i n v / 2 ^ 32 % 2 ^ 4 ≡ i.0 = omega (arith, h.position_fits, h.source_fits, h.reading_fits, h.value_fits) in
    let d : old_full_word p i n v / 2 ^ 16 % 2 ^ 16 ≡ n = omega (arith, h.position_fits, h.source_fits, h.reading_fits, h.value_fits) in
    let e : old_full_word p i n v % 2 ^ 16 ≡ v = omega (arith, h.position_fits, h.source_fits, h.reading_fits, h.value_fits) in
    rw (t, a, b, d, e) refl

old_slot_in-empty : (p : ℕ) → p < 2 ^ 21 → old_slot_in (old_empty_word p) ≡ Some (Empty p)
old_slot_in-empty p lt =
    let t : p * 2 ^ 36 / 2 ^ 57 ≡ 0 = omega arith in
    let f = lt-ltb (p * 2 ^ 36) (2 ^ 57) (omega arith) in
    let z : p * 2 ^ 36 % 2 ^ 36 ≡ 0 = omega arith in
    let q : p * 2 ^ 36 / 2 ^ 36 ≡ p = omega arith in
    rw (t, f, z, q) refl

-- a slot's word is read back
pub old_slot_in-word_of : (s : OldSlot) → IsOldSlot s → old_slot_in (old_word_of s) ≡ Some s
old_slot_in-word_of (Empty p) h = old_slot_in-empty p h
old_slot_in-word_of (Full p i n v) h = old_slot_in-full p i n v h

-- what a word is read as: the numbers of the slot fit, and its word is this one
pub record IsReadAs (word : ℕ) (s : OldSlot) : Type 0 where
  pub fits : IsOldSlot s
  pub back : old_word_of s ≡ word

pub old_slot_read : (word : ℕ) (s : OldSlot) → old_slot_in word ≡ Some s → IsReadAs word s
old_slot_read word s e = by_flag (word / 2 ^ 57 == 1) (nat_lt word (2 ^ 57) && (word % 2 ^ 36 == 0)) refl refl e
  where
    by_flag : (b c : Bool) → (word / 2 ^ 57 == 1) ≡ b → (nat_lt word (2 ^ 57) && (word % 2 ^ 36 == 0)) ≡ c →
        cond b (Some (old_full_in word)) (cond c (Some (Empty (word / 2 ^ 36))) None) ≡ Some s → IsReadAs word s
    by_flag true c f z e =
        let one : word / 2 ^ 57 ≡ 1 = eqb-true _ _ f in
        subst (IsReadAs word) (same_Some _ _ e) (record {
          fits = record { position_fits = omega arith; source_fits = omega arith; reading_fits = omega arith; value_fits = omega arith };
          back = omega arith;
        })
    by_flag false true f z e =
        let both = and_parts (nat_lt word (2 ^ 57)) (word % 2 ^ 36 == 0) z in
        let small : word < 2 ^ 57 = ltb-true _ _ both.0 in
        let even : word % 2 ^ 36 ≡ 0 = eqb-true _ _ both.1 in
        subst (IsReadAs word) (same_Some _ _ e) (record { fits = omega arith; back = omega arith })
    by_flag false false f z e = absurd cc

-- a full word has the numbers that are read
pub full_fits : (word p : ℕ) (i : SourceId) (n v : ℕ) → old_slot_in word ≡ Some (Full p i n v) → FitsOldSlot p i n v
full_fits word p i n v e = (old_slot_read word (Full p i n v) e).fits
