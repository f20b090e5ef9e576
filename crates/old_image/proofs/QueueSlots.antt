-- The slots behind the events that a queue holds.
use Rattle.old_image.proofs.Common.{◌≡◌, inl, inr, ℕ, ◌+◌, ◌-◌, ◌<◌, ◌≤◌, ◌^◌, length, sym, ap, subst, arith, cases_lt, Memory, Program, thread_def, old_held, old_released, IsOldSlotWord}
use Rattle.image_checks.specs.Failing.{HoldsBelow}
use Rattle.old_image.specs.kept.Parts.{IsFree, IsFirstSlot}
use Rattle.old_image.proofs.Checks.{slot_held, slot_free, free_slot}
use Rattle.old_image.proofs.Walks.{position_fits}

module _ (program : Program) (words : Memory) (t : ℕ) where
  -- nothing is asked at a held event
  pub held_right : HoldsBelow (IsOldSlotWord program words t) (length (old_held program words t))
  held_right k held = slot_held program words t k held

  -- a free slot is right
  pub free_right : (first k : ℕ) → first ≡ old_released program words t → IsFree program words t (first + k) → IsOldSlotWord program words t k
  free_right first k from free = slot_free program words t k (subst (λ n. IsFree program words t (n + k)) from free)

  -- the position behind slots that are right fits a word
  pub next_fits : (first k : ℕ) → first ≡ old_released program words t → first < 2 ^ 64 → length (old_held program words t) ≤ k →
      HoldsBelow (IsOldSlotWord program words t) k → first + k < 2 ^ 64
  next_fits first k from small behind right =
      elim (cases_lt (length (old_held program words t)) k) [
        | inl more ↦ let last = (right (k - 1) (omega arith)).fits (omega arith) in omega arith
        | inr all ↦ let fits = position_fits program words t k (omega arith) (omega arith) in omega arith
      ]

  -- the first that isn't free is the first wrong one
  pub first_slot : (first k : ℕ) → first ≡ old_released program words t → length (old_held program words t) ≤ k → k < (thread_def program t).queue →
      HoldsBelow (IsOldSlotWord program words t) k → ¬ IsFree program words t (first + k) → IsFirstSlot program words t (first + k)
  first_slot first k from behind inside right taken = record {
    k = k;
    at = ap (λ n. n + k) from;
    fault = record {
      inside = inside;
      before = right;
      fails = λ is. taken (subst (λ n. IsFree program words t (n + k)) (sym from) (free_slot program words t k behind is));
    };
  }
