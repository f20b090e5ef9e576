-- The words of slots are different, they are read back, and what is read is the word.
use Rattle.std.proofs.Common.{◌≡◌, ◌≢◌, ℕ, ◌*◌, ◌/◌, ◌%◌, ◌^◌, ◌<◌, ◌==◌, cond, Bool, true, false, refl, sym, ap, ◌∙◌, arith, eq-eqb, eqb-true, Some, None}
use Rattle.std.proofs.lemmas.Option.{same_Some}
use Rattle.ink_base.specs.declared.ids.SourceId.{SourceId}
use Rattle.push_core.specs.declared.slot.Slot.{Slot}
use Rattle.push_core.specs.declared.slot.Slot.TheVariants.{Empty, Full}
use Rattle.push_core.specs.Slots.{full_word, empty_word, full_in, slot_in, word_of, FitsSlot, IsSlot}

pub slot_in-full : (p : ℕ) (i : SourceId) (c v : ℕ) → FitsSlot p i c → v < 2 ^ 32 → slot_in (full_word p i c v) ≡ Some (Full p i c v)
slot_in-full p i c v h lt =
    let t = eq-eqb _ _ (let x : full_word p i c v / 2 ^ 63 ≡ 1 = omega (arith, h.position_fits, h.source_fits, h.count_fits) in x) in
    let a : full_word p i c v / 2 ^ 42 % 2 ^ 21 ≡ p = omega (arith, h.position_fits, h.source_fits, h.count_fits) in
    let b : full_word p i c v / 2 ^ 38 % 2 ^ 4 ≡ i.0 = omega (arith, h.position_fits, h.source_fits, h.count_fits) in
    let d : full_word p i c v / 2 ^ 32 % 2 ^ 6 ≡ c = omega (arith, h.position_fits, h.source_fits, h.count_fits) in
    let e : full_word p i c v % 2 ^ 32 ≡ v = omega (arith, h.position_fits, h.source_fits, h.count_fits) in
    rw (t, a, b, d, e) refl

pub slot_in-empty : (p : ℕ) → p < 2 ^ 21 → slot_in (empty_word p) ≡ Some (Empty p)
slot_in-empty p lt =
    let t : p * 2 ^ 42 / 2 ^ 63 ≡ 0 = omega arith in
    let z : p * 2 ^ 42 % 2 ^ 42 ≡ 0 = omega arith in
    let q : p * 2 ^ 42 / 2 ^ 42 ≡ p = omega arith in
    rw (t, z, q) refl

-- a slot's word is read back
pub slot_in-word_of : (s : Slot) → IsSlot s → slot_in (word_of s) ≡ Some s
slot_in-word_of (Empty p) h = slot_in-empty p h
slot_in-word_of (Full p i c v) h = slot_in-full p i c v h.0 h.1

-- what is read is the word
pub word_of-slot_in : (word : ℕ) (s : Slot) → word < 2 ^ 64 → slot_in word ≡ Some s → word_of s ≡ word
word_of-slot_in word s lt e = by_flag (word / 2 ^ 63 == 1) (word % 2 ^ 42 == 0) refl refl e
  where
    by_flag : (b c : Bool) → (word / 2 ^ 63 == 1) ≡ b → (word % 2 ^ 42 == 0) ≡ c
        → cond b (Some (full_in word)) (cond c (Some (Empty (word / 2 ^ 42))) None) ≡ Some s → word_of s ≡ word
    by_flag true c f z e =
        let one : word / 2 ^ 63 ≡ 1 = eqb-true _ _ f in
        ap word_of (sym (same_Some _ _ e)) ∙ (let w : word_of (full_in word) ≡ word = omega arith in w)
    by_flag false true f z e =
        let zero : word % 2 ^ 42 ≡ 0 = eqb-true _ _ z in
        ap word_of (sym (same_Some _ _ e)) ∙ (let w : empty_word (word / 2 ^ 42) ≡ word = omega arith in w)
    by_flag false false f z e = absurd cc

-- different slots have different words
pub same_slot : (s t : Slot) → IsSlot s → IsSlot t → word_of s ≡ word_of t → s ≡ t
same_slot s t h k e = same_Some s t (sym (slot_in-word_of s h) ∙ (ap slot_in e ∙ slot_in-word_of t k))

-- no full word is an empty one
pub full_word-≢-empty_word : (p : ℕ) (i : SourceId) (c v q : ℕ) → q < 2 ^ 21 → full_word p i c v ≢ empty_word q
full_word-≢-empty_word p i c v q lt e = omega arith

pub same_empty : (p q : ℕ) → empty_word p ≡ empty_word q → p ≡ q
same_empty p q e = omega arith

-- equal full words have equal numbers
pub record SameNumbers (p : ℕ) (i : SourceId) (c v : ℕ) (q : ℕ) (j : SourceId) (d w : ℕ) : Type 0 where
  pub positions : p ≡ q
  pub sources : i.0 ≡ j.0
  pub counts : c ≡ d
  pub values : v ≡ w

pub same_full : (p : ℕ) (i : SourceId) (c v : ℕ) (q : ℕ) (j : SourceId) (d w : ℕ) → FitsSlot p i c → v < 2 ^ 32 → FitsSlot q j d → w < 2 ^ 32
    → full_word p i c v ≡ full_word q j d w → SameNumbers p i c v q j d w
same_full p i c v q j d w h lt k ls e = record {
  positions = omega (arith, h.source_fits, h.count_fits, k.source_fits, k.count_fits);
  sources = omega (arith, h.source_fits, h.count_fits, k.source_fits, k.count_fits);
  counts = omega (arith, h.source_fits, h.count_fits, k.source_fits, k.count_fits);
  values = omega (arith, h.source_fits, h.count_fits, k.source_fits, k.count_fits);
}
