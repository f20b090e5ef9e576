-- A reading more is put at its position.
use Rattle.std.proofs.Common.{◌≡◌, ◌≢◌, inl, inr, ℕ, zero, suc, ◌+◌, ◌<◌, List, [], ◌∷◌, length, set, length-set, refl, sym, ap, ◌∙◌, subst, arith}
use Rattle.std.proofs.lemmas.Bool.{cases_eq, cases_lt}
use mathlib.Core.Option.{some, some-ne-none, some-injective}
use lib.ListN.{get_elem?}
use Rattle.ink_base.specs.declared.accept.Accept.{Accept}
use Rattle.ink_base.specs.declared.ids.SourceId.{SourceId}
use Rattle.irq_source.specs.declared.lists.Published.{Published}
use Rattle.event_queue.proofs.Basics.{same_element}
use Rattle.queue_lists.specs.Puts.{accepted_as, HavePositions, NoneAt, ArePut}

set_at : {A : Type 0} (xs : List A) (i : ℕ) (x : A) → i < length xs → get_elem? (set xs i x) i ≡ some x
set_at [] i x lt = absurd (omega arith)
set_at (y ∷ xs) zero x lt = refl
set_at (y ∷ xs) (suc i) x lt = set_at xs i x (omega arith)

set_beside : {A : Type 0} (xs : List A) (i k : ℕ) (x : A) → k ≢ i → get_elem? (set xs i x) k ≡ get_elem? xs k
set_beside [] i k x other = refl
set_beside (y ∷ xs) zero zero x other = absurd (other refl)
set_beside (y ∷ xs) zero (suc k) x other = refl
set_beside (y ∷ xs) (suc i) zero x other = refl
set_beside (y ∷ xs) (suc i) (suc k) x other = set_beside xs i k x (λ e. other (ap suc e))

last_or : {n count : ℕ} → n < count + 1 → (n ≢ count) → n < count
last_or {n} {count} lt other = elim (cases_lt n count) [ inl less ↦ less | inr ge ↦ absurd (other (omega arith)) ]

module _ {A : Type 0} (f : Published → A) (published : List Published) (count : ℕ) (x : Published) (at : get_elem? published count ≡ some x) where
  -- each of the readings up to with this one is there
  all_here : (list : List A) → HavePositions published (length list) → ((n : ℕ) (p : Published) → n < count → get_elem? published n ≡ some p → get_elem? list p.position ≡ some (f p)) →
      (n : ℕ) (p : Published) → n < count + 1 → get_elem? published n ≡ some p → get_elem? (set list x.position (f x)) p.position ≡ some (f p)
  all_here list has h n p lt here =
      elim (cases_eq n count) [
        | inl last ↦
            let same : x ≡ p = same_element published count x p at (subst (λ (m : ℕ). get_elem? published m ≡ some p) last here) in
            subst (λ (z : Published). get_elem? (set list x.position (f x)) z.position ≡ some (f z)) same (set_at list x.position (f x) (has.below count x at))
        | inr other ↦
            let before = last_or lt other in
            let under = has.rise n count p x before here at in
            set_beside list x.position p.position (f x) (λ e. absurd (omega arith)) ∙ h n p before here
      ]

  all_else : (old list : List A) → ((q : ℕ) → NoneAt published count q → get_elem? list q ≡ get_elem? old q) → (q : ℕ) → NoneAt published (count + 1) q → get_elem? (set list x.position (f x)) q ≡ get_elem? old q
  all_else old list h q none = set_beside list x.position q (f x) (λ e. none count x (omega arith) at (sym e)) ∙ h q (λ n p lt here. none n p (omega arith) here)

pub puts_one : (source : SourceId) (published : List Published) (count : ℕ) (x : Published) (before accepts : List Accept) (dates charges : List ℕ) → get_elem? published count ≡ some x
    → HavePositions published (length before) → HavePositions published (length dates) → ArePut source published count before accepts dates charges
    → ArePut source published (count + 1) before (set accepts x.position (accepted_as source x)) dates (set charges x.position x.charge)
puts_one source published count x before accepts dates charges at has dated h = record {
  size = omega (arith, length-set accepts x.position (accepted_as source x), h.size);
  dated = omega (arith, length-set charges x.position x.charge, h.dated);
  here = all_here (accepted_as source) published count x at accepts (subst (HavePositions published) (sym h.size) has) h.here;
  date = all_here (λ (p : Published). p.charge) published count x at charges (subst (HavePositions published) (sym h.dated) dated) h.date;
  elsewhere = all_else (accepted_as source) published count x at before accepts h.elsewhere;
  dates_elsewhere = all_else (λ (p : Published). p.charge) published count x at dates charges h.dates_elsewhere;
}

pub puts_none : (source : SourceId) (published : List Published) (before : List Accept) (dates : List ℕ) → ArePut source published 0 before before dates dates
puts_none source published before dates = record {
  size = refl;
  dated = refl;
  here = λ n p lt. absurd (omega arith);
  date = λ n p lt. absurd (omega arith);
  elsewhere = λ q none. refl;
  dates_elsewhere = λ q none. refl;
}

-- a single reading below the end has a position
pub one_position : (x : Published) (places : ℕ) → x.position < places → HavePositions (x ∷ []) places
one_position x places lt = record { below = below; rise = rise }
  where
    below : (n : ℕ) (p : Published) → get_elem? (x ∷ []) n ≡ some p → p.position < places
    below zero p at = subst (λ (z : Published). z.position < places) (some-injective x p at) lt
    below (suc n) p at = absurd (some-ne-none p (sym at))

    rise : (j n : ℕ) (p q : Published) → j < n → get_elem? (x ∷ []) j ≡ some p → get_elem? (x ∷ []) n ≡ some q → p.position < q.position
    rise j zero p q less at_p at_q = absurd (omega arith)
    rise j (suc n) p q less at_p at_q = absurd (some-ne-none q (sym at_q))
