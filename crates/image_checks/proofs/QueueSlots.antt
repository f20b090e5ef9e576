-- The slots behind the events that a queue holds, and the event that its chain serves.
use Rattle.std.proofs.Common.{◌≡◌, inl, inr, ℕ, ◌+◌, ◌-◌, ◌<◌, ◌≤◌, ◌^◌, ◌↔◌, IsTrue, Bool, List, [], ◌∷◌, length, slice_get, Option, sym, ap, subst, arith}
use Rattle.std.proofs.lemmas.Bool.{cases_lt}
use Rattle.ink_base.specs.declared.event.Event.{Event}
use Rattle.ink_base.specs.declared.event.Origin.{Origin}
use Rattle.ink_base.specs.declared.event.Origin.TheVariants as origins
use Rattle.ink_base.specs.declared.ids.SourceId.{SourceId}
use Rattle.task_isa.specs.declared.program.Program.{Program}
use Rattle.fram_words.specs.Places.{Memory}
use Rattle.prog_check.specs.Lookup.{thread_def}
use Rattle.never_cut.specs.Image.{IsSlotWord, IsServedFirst}
use Rattle.never_cut.specs.ReadOff.{told_held, told_released}
use Rattle.image_told.proofs.Walks.{position_fits}
use Rattle.image_checks.specs.Failing.{HoldsBelow}
use Rattle.image_checks.specs.kept.Queues.{IsFree, IsFirstSlot, IsEventOf}

module _ (program : Program) (words : Memory) (t : ℕ) where
  -- nothing is asked at a held event
  pub held_right : HoldsBelow (IsSlotWord program words t) (length (told_held program words t))
  held_right k held = record { empty = λ behind. absurd (omega arith); fits = λ behind. absurd (omega arith) }

  -- a free slot is right
  pub free_right : (first k : ℕ) → first ≡ told_released program words t → IsFree program words t (first + k) → IsSlotWord program words t k
  free_right first k from free =
      let is : IsFree program words t (told_released program words t + k) = subst (λ n. IsFree program words t (n + k)) from free in
      record { empty = λ behind. is.empty; fits = λ behind. is.fits }

  -- behind the held events one that is right is free
  pub right_free : (first k : ℕ) → first ≡ told_released program words t → length (told_held program words t) ≤ k → IsSlotWord program words t k →
      IsFree program words t (first + k)
  right_free first k from behind right =
      let is : IsFree program words t (told_released program words t + k) = record { empty = right.empty behind; fits = right.fits behind } in
      subst (λ n. IsFree program words t (n + k)) (sym from) is

  -- the position behind slots that are right fits a word
  pub next_fits : (first k : ℕ) → first ≡ told_released program words t → first < 2 ^ 64 → length (told_held program words t) ≤ k →
      HoldsBelow (IsSlotWord program words t) k → first + k < 2 ^ 64
  next_fits first k from small behind right =
      elim (cases_lt (length (told_held program words t)) k) [
        | inl more ↦
            let last = (right (k - 1) (omega arith)).fits (omega arith) in omega arith
        | inr all ↦
            let fits = position_fits program words t k (omega arith) (omega arith) in omega arith
      ]

  -- the first that isn't free is the first wrong one
  pub first_slot : (first k : ℕ) → first ≡ told_released program words t → length (told_held program words t) ≤ k → k < (thread_def program t).queue →
      HoldsBelow (IsSlotWord program words t) k → ¬ IsFree program words t (first + k) → IsFirstSlot program words t (first + k)
  first_slot first k from behind inside right taken = record {
    k = k;
    at = ap (λ n. n + k) from;
    fault = record { inside = inside; before = right; fails = λ is. taken (right_free first k from behind is) };
  }

-- a test of the first held event tells whether it is the one that is served
pub served_first : (held : List Event) (found : Option Event) (source : SourceId) (count : ℕ) {o : Origin} {value word : ℕ} {r : Bool} → found ≡ slice_get held 0 →
    o ≡ origins.Source source count → value ≡ word → (IsTrue r ↔ IsEventOf (origins.Source source count) value found) → (IsTrue r ↔ IsServedFirst held o word)
served_first held found source count {o} {value} {word} {r} at is same test =
    subst (λ n. IsTrue r ↔ IsServedFirst held o n) same
    (subst (λ x. IsTrue r ↔ IsServedFirst held x value) (sym is) (of_first held (subst (λ x. IsTrue r ↔ IsEventOf (origins.Source source count) value x) at test)))
  where
    of_first : (events : List Event) → (IsTrue r ↔ IsEventOf (origins.Source source count) value (slice_get events 0)) →
        (IsTrue r ↔ IsServedFirst events (origins.Source source count) value)
    of_first [] t = (λ yes. absurd (t.0 yes), λ none. absurd (omega (arith, none.0)))
    of_first (e ∷ rest) t = (λ yes. (omega arith, t.0 yes), λ first. t.1 first.1)
