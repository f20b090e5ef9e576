-- A source's events more are put in its queue, and a queue more is put together.
use Rattle.std.proofs.Common.{◌≡◌, ◌≢◌, inl, inr, ℕ, zero, suc, ◌+◌, ◌<◌, ◌≤◌, List, [], ◌∷◌, ◌++◌, get_or, length, map, length-append, refl, sym, ap, ◌∙◌, subst, arith}
use Rattle.std.proofs.lemmas.Bool.{cases_eq, cases_lt}
use Rattle.std.proofs.lemmas.List.{get_or_append_left, length-map}
use Rattle.std.proofs.Math.Seq.{get_or-append_seam}
use mathlib.Core.Option.{some}
use lib.ListN.{get_elem?}
use Rattle.ink_base.specs.declared.accept.Accept.{Accept}
use Rattle.task_isa.specs.declared.program.Program.{Program}
use Rattle.irq_source.specs.declared.lists.Published.{Published}
use Rattle.event_queue.proofs.Basics.{below}
use Rattle.queue_lists.specs.Lists.{Lists, lists_at, sum_below, accepted_into, events_into, all_into}
use Rattle.queue_lists.specs.Puts.{ArePut, accepted_as, refusal_of}
use Rattle.queue_lists.specs.Gathers.{source, refusals_of, HavePlaces, ArePlaced}
use Rattle.queue_lists.proofs.Sums.{sum_more, sum_next}

-- the places up to with a source's are no more than all
pub places_fit : (program : Program) (lists : List Lists) (t i : ℕ) → i < length lists → events_into program lists t i + length (accepted_into program lists t i) ≤ all_into program lists t
places_fit program lists t i lt =
    let number : ℕ → ℕ = λ j. length (accepted_into program lists t j) in
    omega (arith, sum_more number (i + 1) (length lists) (omega arith), sum_next number i)

-- as many refusals as all sources have
pub refusals_number : (lists : List Lists) (n : ℕ) → length (refusals_of lists n) ≡ sum_below (λ i. length (lists_at lists i).refused) n
refusals_number lists zero = refl
refusals_number lists (suc n) =
    omega (arith, refusals_number lists n, length-append (refusals_of lists n) (map (refusal_of (source n)) (lists_at lists n).refused), length-map (lists_at lists n).refused (refusal_of (source n)))

pub refusals_fit : (lists : List Lists) (i : ℕ) → i < length lists → length (refusals_of lists i) + length (lists_at lists i).refused ≤ length (refusals_of lists (length lists))
refusals_fit lists i lt =
    let number : ℕ → ℕ = λ j. length (lists_at lists j).refused in
    omega (arith, sum_more number (i + 1) (length lists) (omega arith), sum_next number i, refusals_number lists i, refusals_number lists (length lists))

-- the places of a source's events are not those of another source
beside : (program : Program) (lists : List Lists) (t n : ℕ) → HavePlaces program lists → (i k : ℕ) (p : Published) → i ≢ n → get_elem? (accepted_into program lists t i) k ≡ some p
    → (m : ℕ) (q : Published) → m < length (accepted_into program lists t n) → get_elem? (accepted_into program lists t n) m ≡ some q → q.position ≢ p.position
beside program lists t n places i k p other at m q lt at_q same = places.apart t i n k m p q other at at_q (sym same)

module _ {program : Program} {lists : List Lists} (t n : ℕ) {before accepts : List Accept} {dates charges : List ℕ} (places : HavePlaces program lists) where
  pub places_next : ArePlaced program lists t n before dates → ArePut (source n) (accepted_into program lists t n) (length (accepted_into program lists t n)) before accepts dates charges → ArePlaced program lists t (n + 1) accepts charges
  places_next h put = record {
    size = put.size ∙ h.size;
    dated = put.dated ∙ h.dated;
    here = λ i k p lt at. elim (cases_eq i n) [
      | inl same ↦
          let at_n = subst (λ (j : ℕ). get_elem? (accepted_into program lists t j) k ≡ some p) same at in
          put.here k p (below (accepted_into program lists t n) k p at_n) at_n ∙ ap (λ (j : ℕ). some (accepted_as (source j) p)) (sym same)
      | inr other ↦ put.elsewhere p.position (beside program lists t n places i k p other at) ∙ h.here i k p (by_cases lt other) at
    ];
    date = λ i k p lt at. elim (cases_eq i n) [
      | inl same ↦
          let at_n = subst (λ (j : ℕ). get_elem? (accepted_into program lists t j) k ≡ some p) same at in
          put.date k p (below (accepted_into program lists t n) k p at_n) at_n
      | inr other ↦ put.dates_elsewhere p.position (beside program lists t n places i k p other at) ∙ h.date i k p (by_cases lt other) at
    ];
  }
    where
      by_cases : {a b : ℕ} → a < b + 1 → (a ≡ b → ⊥) → a < b
      by_cases {a} {b} lt other = elim (cases_lt a b) [ inl less ↦ less | inr ge ↦ absurd (other (omega arith)) ]

-- what holds of each pair of elements, and of one pair more
pub pairs_next : {A B : Type 0} (P : ℕ → A → B → Type 0) (n : ℕ) (xs : List A) (ys : List B) (x d : A) (y e : B) → length xs ≡ n → length ys ≡ n → ((t : ℕ) → t < n → P t (get_or xs t d) (get_or ys t e)) → P n x y
    → (t : ℕ) → t < n + 1 → P t (get_or (xs ++ x ∷ []) t d) (get_or (ys ++ y ∷ []) t e)
pairs_next {A} {B} P n xs ys x d y e is_x is_y each last t lt =
    elim (cases_lt t n) [
      | inl less ↦
          subst (λ (b : B). P t (get_or (xs ++ x ∷ []) t d) b) (sym (get_or_append_left ys (y ∷ []) e t (omega arith)))
          (subst (λ (a : A). P t a (get_or ys t e)) (sym (get_or_append_left xs (x ∷ []) d t (omega arith))) (each t less))
      | inr ge ↦
          let at_x : get_or (xs ++ x ∷ []) t d ≡ x = ap (λ (k : ℕ). get_or (xs ++ x ∷ []) k d) (let same : t ≡ length xs = omega arith in same) ∙ get_or-append_seam xs x [] d in
          let at_y : get_or (ys ++ y ∷ []) t e ≡ y = ap (λ (k : ℕ). get_or (ys ++ y ∷ []) k e) (let same : t ≡ length ys = omega arith in same) ∙ get_or-append_seam ys y [] e in
          let same : n ≡ t = omega arith in
          subst (λ (b : B). P t (get_or (xs ++ x ∷ []) t d) b) (sym at_y) (subst (λ (a : A). P t a y) (sym at_x) (subst (λ (k : ℕ). P k x y) same last))
    ]
